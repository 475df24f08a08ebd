use Rattle.std.proofs.Common.{sym, ap, subst, ◌∙◌}
use Rattle.row_pages.specs.Pages.{ArePages}
use Rattle.row_pages.proofs.PageChanges.{lowered}
use Rattle.row_pages.proofs.PageSets.{page_gone, set_lowered}
use Rattle.row_pages.proofs.page_edits.drop_page.Goals as goal

pub returns-in-Some-clause-pages : goal.returns-in-Some-clause-pages
returns-in-Some-clause-pages c =
    subst ArePages (ap lowered (sym c.remove.ensures.items) ∙ sym (set_lowered c.remove.new.self.items c.in-Some.first.now c.none.result c.in-Some.ensures.value c.none.ensures))
    (page_gone c.args.pages.now.items c.args.page c.remove.result c.remove.result c.requires.pages c.requires.page c.remove.ensures.value)

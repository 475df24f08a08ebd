use Rattle.std.proofs.Common.{ℕ, List, subst}
use Rattle.std.specs.Io.KnownBytes.{Appends}
use Rattle.std.proofs.KnownBytes.{Appends-trans}
use Rattle.listing_print.specs.GivenTexts.{GaveFront}
use Rattle.serve_job.proofs.SavedLemmas.{err_so, front_behind, front_more, ok_so, on_err}
use Rattle.serve_job.proofs.last_lines.LastLines.give.Goals as goal

pub returns-in_err-give_text-clause-err : goal.returns-in_err-give_text-clause-err
returns-in_err-give_text-clause-err g c =
    let k = g.K.Sink in
    let front = subst (λ (xs : List ℕ). GaveFront (k.held c.args.output.now) (k.held c.give_text.new.sink) xs) c.deref.ensures.value c.in_err-give_text.ensures.err in
    on_err c.from_residual.result _ (front_more (k.held c.args.output.now) (k.held c.give_text.new.sink) c.args.self.now.text.items c.args.self.now.cells.items front)

pub returns-clause-ok : goal.returns-clause-ok
returns-clause-ok g c =
    let k = g.K.Sink in
    let gave = subst (λ (xs : List ℕ). Appends (k.held c.args.output.now) (k.held c.give_text.new.sink) xs) c.deref.ensures.value c.in_ok-give_text.ensures.ok in
    ok_so c.give_text-2.result _ _
    (λ more. Appends-trans (k.held c.args.output.now) (k.held c.give_text.new.sink) (k.held c.give_text-2.new.sink) c.args.self.now.text.items c.args.self.now.cells.items gave
    (subst (λ (xs : List ℕ). Appends (k.held c.give_text.new.sink) (k.held c.give_text-2.new.sink) xs) c.deref-2.ensures.value more)) c.give_text-2.ensures.ok

pub returns-clause-err : goal.returns-clause-err
returns-clause-err g c =
    let k = g.K.Sink in
    let gave = subst (λ (xs : List ℕ). Appends (k.held c.args.output.now) (k.held c.give_text.new.sink) xs) c.deref.ensures.value c.in_ok-give_text.ensures.ok in
    err_so c.give_text-2.result _ _
    (λ more. front_behind (k.held c.args.output.now) (k.held c.give_text.new.sink) (k.held c.give_text-2.new.sink) c.args.self.now.text.items c.args.self.now.cells.items gave
    (subst (λ (xs : List ℕ). GaveFront (k.held c.give_text.new.sink) (k.held c.give_text-2.new.sink) xs) c.deref-2.ensures.value more)) c.give_text-2.ensures.err

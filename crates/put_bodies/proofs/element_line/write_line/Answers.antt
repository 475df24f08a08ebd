use Rattle.std.proofs.Common.{ap, ◌∙◌, ◌++◌, List, ℕ}
use Rattle.put_bodies.specs.LineWords.{words_text}
use Rattle.put_bodies.proofs.ElementLines.{line_stands}
use Rattle.put_bodies.proofs.TapeItems.{on_ok}
use Rattle.put_bodies.proofs.element_line.write_line.Goals as goal

pub returns : goal.returns
returns c j d begins plain read =
    let m = c.in-Some.members in
    let has = c.in-Some.ensures j begins in
    let words = c.in_ok-write_words.ensures in
    on_ok c.write_tags.result (line_stands j d m.metric.now m.time.now m.value.now has.tags.0 c.write_tags.new.line.items c.write_words.new.line.items plain read has.metric has.time has.value has.tags.1 words.0
    (words.1 ∙ ap (λ (x : List ℕ). x ++ words_text m.metric.now m.time.now m.value.now) c.clear.ensures.items)) (c.write_tags.ensures has.tags.0 has.tags.2)

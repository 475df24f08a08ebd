use Rattle.std.proofs.Common.{ap, sym, ◌∙◌}
use Rattle.json.specs.Json.{string}
use Rattle.put_bodies.proofs.PartLemmas.{str_is}
use Rattle.put_bodies.proofs.TagTurns.{tag_of_string}
use Rattle.put_bodies.proofs.put_words.write_tag.Goals as goal

pub returns : goal.returns
returns c j begins =
    tag_of_string c.write_pair.result j c.args.key.now c.as_bytes.result.now c.args.line.now.items c.write_pair.new.line.items
    (str_is j c.in-Some.text.now (c.in-Some.ensures j begins) ∙ ap string (sym c.as_bytes.ensures.value)) c.write_pair.ensures

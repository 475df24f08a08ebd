use Rattle.std.proofs.Common.{◌≡◌, option_map, subst}
use Rattle.json.specs.Json.{no_members}
use Rattle.json.specs.Find.{NextMember}
use Rattle.put_bodies.specs.LineWords.{IsTagOf}
use Rattle.put_bodies.proofs.TagTurns.{tags_end, tags_more, tags_start}
use Rattle.put_bodies.proofs.put_words.write_tags.Goals as goal

pub loop-key-init : goal.loop-key-init
loop-key-init c ms goes = tags_start ms c.args.members c.args.line.now.items goes

pub loop-key-preserved : goal.loop-key-preserved
loop-key-preserved c ms goes =
    let l = c.loop-key in
    let now = l.invariant ms goes in
    let f = c.in-Some.ensures.value now.rest now.goes in
    tags_more ms l.rest c.next.new.self c.args.line.now.items l.line.items c.write_tag.new.line.items c.in-Some.key.now f.0 f.1 now f.2 f.4
    (subst (λ k. IsTagOf k f.0 l.line.items c.write_tag.new.line.items) c.as_bytes.ensures.value (c.in_ok-write_tag.ensures f.0 f.3))

pub returns : goal.returns
returns c ms goes =
    let l = c.loop-key in
    let now = l.invariant ms goes in
    let done : now.rest ≡ no_members = subst (λ r. NextMember l.rest (option_map (λ m. (m.0.now, m.1)) r) c.next.new.self) c.in_default.is c.next.ensures.value now.rest now.goes in
    tags_end ms l.rest c.args.line.now.items l.line.items now done

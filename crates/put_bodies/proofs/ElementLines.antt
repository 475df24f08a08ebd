-- The line of an element, and the point of both.
use Rattle.std.proofs.Common.{◌≡◌, ℕ, true, List, [], ◌∷◌, ◌++◌, map, Option, None, Some, Result, Ok, Err, option_map, option_and_then, refl, sym, ap, subst, ◌∙◌, codes}
use Rattle.std.specs.Prelude.{is_some}
use Rattle.std.specs.List.{AllByRecursion}
use Rattle.std.specs.Str.Parse.{digits_value}
use Rattle.json.specs.Json as json
use Rattle.json.specs.Find as seen
use Rattle.serde_json.specs.Data.{Data, number, object, unsigned, Members}
use Rattle.serde_json.specs.Find.{as_object, get}
use Rattle.serde_json.specs.Read.{of_json, of_members}
use Rattle.tsd_base.specs.declared.points.PointFault.TheVariants.{Time, Value}
use Rattle.tsd_base.specs.Points.{DataPoint, point_of, point_of_parts, point_of_words, pairs_of}
use Rattle.tsd_base.specs.TagList.{Pair}
use Rattle.tsd_base.specs.Tags.{tags_of}
use Rattle.json_points.specs.Elements.{pairs_in, told}
use Rattle.put_bodies.specs.ElementLines.{IsLineOf}
use Rattle.put_bodies.specs.LineWords.{HasTagsOf, IsTagText, IsWord, pair_word, tags_text, words_text}
use Rattle.put_bodies.specs.PlainBodies.{IsElement}
use Rattle.put_bodies.proofs.ElementData.{digits_stand, found_stands}
use Rattle.put_bodies.proofs.ElementReads.{element_is}
use Rattle.put_bodies.proofs.FoundMembers.{found_digits}
use Rattle.put_bodies.proofs.LineWords.{line_words}
use Rattle.put_bodies.proofs.NumberReads.{time_alike}
use Rattle.put_bodies.proofs.PairWords.{pairs_read}
use Rattle.put_bodies.proofs.PointParts.{parts_alike}
use Rattle.put_bodies.proofs.SortedTags.{tags_alike}
use Rattle.put_bodies.proofs.TagMembers.{all_strings, gather, named_gather, named_pairs, strings_read, texts_of}
use Rattle.put_bodies.proofs.ValueReads.{value_alike}

two_answers : {A E : Type 0} (e : E) (a : A) → ◌≡◌ {A = Result A E} (Err e) (Ok a) → ⊥
two_answers e a is = cc

is_object : (j : json.Json) (d : Data) → IsElement j → of_json j ≡ Some d → is_some (as_object d) ≡ true
is_object json.null d h e = absurd h
is_object (json.boolean b) d h e = absurd h
is_object (json.number s) d h e = absurd h
is_object (json.string s) d h e = absurd h
is_object (json.array js) d h e = absurd h
is_object (json.object ms) d h e = by_members (of_members ms _) e
  where
    by_members : (o : Option Members) → option_map object o ≡ Some d → is_some (as_object d) ≡ true
    by_members (Some all) e = subst (λ (o : Option Data). is_some (option_and_then as_object o) ≡ true) e refl
    by_members None e = absurd (cc)

-- the tags of the words are those of the members
pub tags_so : (pairs ps : List Pair) → AllByRecursion IsTagText pairs → pairs_of 1 (map pair_word pairs) ≡ Ok ps
    → (sorted : List Pair) × (pairs_in 1 (texts_of (gather [] pairs)) ≡ Ok sorted) × ((all : List Pair) → tags_of ps ≡ Ok all → tags_of sorted ≡ Ok all)
tags_so pairs ps words is =
    let r = pairs_read 1 pairs ps words is in
    (gather [] pairs, named_pairs 1 (gather [] pairs) (named_gather pairs [] r.named tt), λ all e. tags_alike pairs all (sym (ap tags_of r.same) ∙ e))

-- the point of four words at least
pub with_words : (m t v : List ℕ) (pairs : List Pair) (point : DataPoint) → point_of_words (m ∷ t ∷ v ∷ map pair_word pairs) ≡ Ok point → point_of_parts m t v (map pair_word pairs) ≡ Ok point
with_words m t v [] point is = absurd (two_answers _ point is)
with_words m t v (p ∷ pairs) point is = is

pub line_stands : (j : json.Json) (d : Data) (m t v : List ℕ) (ms : json.Members) (line words : List ℕ) → IsElement j → of_json j ≡ Some d → seen.get (codes "metric") j ≡ Some (json.string m) → seen.get (codes "timestamp") j ≡ Some (json.number t)
    → seen.get (codes "value") j ≡ Some (json.number v) → seen.get (codes "tags") j ≡ Some (json.object ms) → IsWord m → words ≡ words_text m t v → HasTagsOf ms words line → IsLineOf line d
line_stands j d m t v ms line words plain read metric time value tags word written tag point is =
    let td = found_digits (codes "timestamp") j t plain time in
    let vd = found_digits (codes "value") j v plain value in
    let sorted : List Pair = gather [] tag.pairs in
    let line_is : line ≡ words_text m t v ++ tags_text tag.pairs = tag.written ∙ ap (λ (x : List ℕ). x ++ tags_text tag.pairs) written in
    let by_words : point_of_words (m ∷ t ∷ v ∷ map pair_word tag.pairs) ≡ Ok point =
    sym (ap point_of_words (line_words m t v tag.pairs word.1 word.0 td.0 td.1 vd.0 vd.1 tag.words)) ∙ sym (ap point_of line_is) ∙ is in
    let tags_read : get (codes "tags") d ≡ Some (object (texts_of sorted)) =
    found_stands (codes "tags") j (json.object ms) d tags read ∙ ap (λ x. of_json (json.object x)) tag.strings ∙ ap (option_map object) (strings_read tag.pairs []) in
    element_is d (number (unsigned (digits_value 10 t))) (number (unsigned (digits_value 10 v))) m (texts_of sorted) (is_object j d plain read)
    (found_stands (codes "metric") j (json.string m) d metric read) (digits_stand (codes "timestamp") j t d time td read) (digits_stand (codes "value") j v d value vd read) tags_read (all_strings sorted)
    ∙ parts_alike m t v (map pair_word tag.pairs) (number (unsigned (digits_value 10 t))) (number (unsigned (digits_value 10 v))) (texts_of sorted) point
    (ap (told (λ _. Time)) (sym (time_alike t td.0 td.1 td.2))) (ap (told Value) (sym (value_alike v vd.0 vd.1))) (λ ps e. tags_so tag.pairs ps tag.words e) (with_words m t v tag.pairs point by_words)

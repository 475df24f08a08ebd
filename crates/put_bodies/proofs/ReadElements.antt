-- Members that have data, and the line of an element.
use Rattle.std.proofs.Common.{◌≡◌, ℕ, ◌≤◌, true, List, [], ◌∷◌, ◌++◌, Option, None, Some, option_and_then, option_map, codes, map, Result, Ok, IfSome, OnOk, refl, sym, ap, subst, ◌∙◌, arith}
use Rattle.std.specs.Prelude.{is_some}
use Rattle.std.specs.List.{AllByRecursion}
use Rattle.json.specs.Json as json
use Rattle.json.specs.Tree as tree
use Rattle.serde_json.specs.Data.{Data, Members, no_members, object, put}
use Rattle.serde_json.specs.Find.{as_object}
use Rattle.serde_json.specs.Read.{of_json, of_members}
use Rattle.tsd_base.specs.Points.{point_of, point_of_words}
use Rattle.put_bodies.specs.ElementLines.{IsLineOf}
use Rattle.std.specs.Borrow.{Bor}
use Rattle.put_bodies.specs.declared.element_scan.ElementParts.{ElementParts}
use Rattle.put_bodies.proofs.TapeItems.{on_ok}
use Rattle.put_bodies.specs.ElementParts.{HasParts, HasTags, IsRead, IsTimeWord, IsValueWord, Named, in_front, last_at}
use Rattle.put_bodies.specs.LineWords.{IsWord, onto, pair_word, tags_text, words_text}
use Rattle.tsd_base.specs.TagList.{Pair}
use Rattle.tsd_base.specs.Words.{words_of}
use Rattle.put_bodies.proofs.ElementData.{found_stands}
use Rattle.put_bodies.proofs.ElementLines.{tags_so, with_words}
use Rattle.put_bodies.proofs.ElementReads.{element_is}
use Rattle.put_bodies.proofs.LineWords.{full_words}
use Rattle.put_bodies.proofs.PointParts.{parts_alike}
use Rattle.put_bodies.proofs.TagMembers.{all_strings, gather, strings_read, texts_of}

-- ---- objects of members that have data

members_have : (front : List Named) (found : Members) → AllByRecursion (λ m. IsRead 1 m.1) front → (all : Members) × (of_members (in_front front json.no_members) found ≡ Some all)
members_have [] found h = (found, refl)
members_have (m ∷ front) found h =
    let rest = members_have front (put m.0 h.0.d found) h.1 in
    (rest.0, ap (option_and_then (λ d. of_members (in_front front json.no_members) (put m.0 d found))) h.0.reads ∙ rest.1)

members_shallow : (front : List Named) → AllByRecursion (λ m. IsRead 1 m.1) front → tree.members_depth (in_front front json.no_members) ≤ 1
members_shallow [] h = omega arith
members_shallow (m ∷ front) h = omega (arith, h.0.shallow, members_shallow front h.1)

pub object_read : (front : List Named) → AllByRecursion (λ m. IsRead 1 m.1) front → IsRead 2 (json.object (in_front front json.no_members))
object_read front h =
    let all = members_have front no_members h in
    record { d = object all.0; reads = ap (option_map object) all.1; shallow = omega (arith, members_shallow front h) }

strings_shallow : (pairs : List Pair) → tree.members_depth (onto pairs json.no_members) ≤ 0
strings_shallow [] = omega arith
strings_shallow (p ∷ pairs) = omega (arith, strings_shallow pairs)

pub strings_have : (pairs : List Pair) → of_json (json.object (onto pairs json.no_members)) ≡ Some (object (texts_of (gather [] pairs)))
strings_have pairs = ap (option_map object) (strings_read pairs [])

pub tags_read : (pairs : List Pair) → IsRead 1 (json.object (onto pairs json.no_members))
tags_read pairs = record { d = object (texts_of (gather [] pairs)); reads = strings_have pairs; shallow = omega (arith, strings_shallow pairs) }

-- ---- lines

is_object : (ms : json.Members) (d : Data) → of_json (json.object ms) ≡ Some d → is_some (as_object d) ≡ true
is_object ms d e = by_members (of_members ms no_members) e
  where
    by_members : (o : Option Members) → option_map object o ≡ Some d → is_some (as_object d) ≡ true
    by_members (Some all) e = subst (λ (o : Option Data). is_some (option_and_then as_object o) ≡ true) e refl
    by_members None e = absurd (cc)

empty_words : point_of [] ≡ point_of_words []
unfolding words_of
empty_words = refl

-- an empty line is no point
pub empty_line : (d : Data) → IsLineOf [] d
empty_line d point is = let e = sym empty_words ∙ is in absurd (cc)

pub parts_line : (front : List Named) (d : Data) (m t v words line : List ℕ) (jt jv : json.Json) → of_json (json.object (in_front front json.no_members)) ≡ Some d → last_at (codes "metric") front ≡ Some (json.string m) → IsWord m
    → last_at (codes "timestamp") front ≡ Some jt → IsTimeWord jt t → last_at (codes "value") front ≡ Some jv → IsValueWord jv v → HasTags front words → line ≡ words_text m t v ++ words → IsLineOf line d
parts_line front d m t v words line jt jv read metric word time tw value vw tags written point is =
    let j = json.object (in_front front json.no_members) in
    let pairs = tags.pairs in
    let sorted : List Pair = gather [] pairs in
    let line_is : line ≡ words_text m t v ++ tags_text pairs = written ∙ ap (λ (x : List ℕ). words_text m t v ++ x) tags.worded.text in
    let by_words : point_of_words (m ∷ t ∷ v ∷ map pair_word pairs) ≡ Ok point = sym (ap point_of_words (full_words m t v pairs word tw.full vw.full tags.worded.plain)) ∙ sym (ap point_of line_is) ∙ is in
    element_is d tw.d vw.d m (texts_of sorted) (is_object (in_front front json.no_members) d read) (found_stands (codes "metric") j (json.string m) d metric read) (found_stands (codes "timestamp") j jt d time read ∙ tw.reads)
    (found_stands (codes "value") j jv d value read ∙ vw.reads) (found_stands (codes "tags") j (json.object (onto pairs json.no_members)) d tags.found read ∙ strings_have pairs) (all_strings sorted)
    ∙ parts_alike m t v (map pair_word pairs) tw.d vw.d (texts_of sorted) point tw.same vw.same (λ ps e. tags_so pairs ps tags.worded.plain e) (with_words m t v pairs point by_words)

-- the line of parts of which none is missing
pub full_line : {T E : Type 0} (r : Result T E) (front : List Named) (d : Data) (parts : ElementParts) (m t v : Bor (List ℕ)) (words old line : List ℕ) → HasParts front parts words → of_json (json.object (in_front front json.no_members)) ≡ Some d
    → parts.metric ≡ Some m → parts.time ≡ Some t → parts.value ≡ Some v → parts.tags ≡ true → IsWord m.now → old ≡ [] → OnOk r (line ≡ old ++ words_text m.now t.now v.now ++ words) → OnOk r (IsLineOf line d)
full_line r front d parts m t v words old line has read metric time value tags word empty written =
    let metric_is = subst (λ o. IfSome o (λ text. last_at (codes "metric") front ≡ Some (json.string text.now))) metric has.metric in
    let time_is = subst (λ o. IfSome o (λ word. (j : json.Json) × (last_at (codes "timestamp") front ≡ Some j) × IsTimeWord j word.now)) time has.time in
    let value_is = subst (λ o. IfSome o (λ word. (j : json.Json) × (last_at (codes "value") front ≡ Some j) × IsValueWord j word.now)) value has.value in
    on_ok r (λ is. parts_line front d m.now t.now v.now words line time_is.0 value_is.0 read metric_is word time_is.1 time_is.2 value_is.1 value_is.2 (has.tags tags) (is ∙ ap (λ (x : List ℕ). x ++ words_text m.now t.now v.now ++ words) empty)) written

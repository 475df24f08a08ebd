-- The words of tags, one after the other.
use Rattle.std.proofs.Common.{◌≡◌, ℕ, List, [], ◌∷◌, ◌++◌, Result, Ok, Err, OnOk, refl, sym, ap, ◌∙◌, append_assoc, append-nil}
use Rattle.std.specs.List.{AllByRecursion}
use Rattle.json.specs.Token.{Token}
use Rattle.json.specs.Json.{Json, string, Members, no_members, member}
use Rattle.json.specs.Find.{InMembers}
use Rattle.list_lemmas.proofs.EntryLemmas.{Each-append}
use Rattle.tsd_base.specs.TagList.{Pair}
use Rattle.put_bodies.specs.LineWords.{HasTagsOf, IsTagOf, IsTagText, onto, tag_text, tags_text}

pub tag_of_string : {T E : Type 0} (r : Result T E) (j : Json) (key text old new : List ℕ) → j ≡ string text → OnOk r (IsTagText (key, text) × (new ≡ old ++ tag_text (key, text))) → OnOk r (IsTagOf key j old new)
tag_of_string (Ok x) j key text old new is (plain, written) = (text, is, plain, written)
tag_of_string (Err e) j key text old new is h = tt

-- some members were written, and the tokens go on with the rest
pub record TagsSoFar (ms : Members) (tokens : List Token) (old now : List ℕ) : Type 0 where
  pub pairs : List Pair
  pub rest : Members
  pub goes : InMembers tokens rest
  pub strings : ms ≡ onto pairs rest
  pub words : AllByRecursion IsTagText pairs
  pub written : now ≡ old ++ tags_text pairs

pub tags_start : (ms : Members) (tokens : List Token) (line : List ℕ) → InMembers tokens ms → TagsSoFar ms tokens line line
tags_start ms tokens line goes = record { pairs = []; rest = ms; goes = goes; strings = refl; words = tt; written = sym (append-nil line) }

pub onto_more : (pairs : List Pair) (p : Pair) (rest : Members) → onto pairs (member p.0 (string p.1) rest) ≡ onto (pairs ++ p ∷ []) rest
onto_more [] p rest = refl
onto_more (q ∷ pairs) p rest = ap (member q.0 (string q.1)) (onto_more pairs p rest)

pub text_more : (pairs : List Pair) (p : Pair) → tags_text (pairs ++ p ∷ []) ≡ tags_text pairs ++ tag_text p
text_more [] p = append-nil (tag_text p)
text_more (q ∷ pairs) p = ap (λ (x : List ℕ). tag_text q ++ x) (text_more pairs p) ∙ sym (append_assoc (tag_text q) (tags_text pairs) (tag_text p))

pub tags_more : (ms : Members) (tokens later : List Token) (old now new key : List ℕ) (j : Json) (rest : Members) (s : TagsSoFar ms tokens old now) → s.rest ≡ member key j rest → InMembers later rest → IsTagOf key j now new → TagsSoFar ms later old new
tags_more ms tokens later old now new key j rest s is goes (text, string_is, plain, written) = record {
  pairs = s.pairs ++ (key, text) ∷ [];
  rest = rest;
  goes = goes;
  strings = s.strings ∙ ap (onto s.pairs) (is ∙ ap (λ (x : Json). member key x rest) string_is) ∙ onto_more s.pairs (key, text) rest;
  words = Each-append IsTagText s.pairs ((key, text) ∷ []) s.words (plain, tt);
  written = written ∙ ap (λ (x : List ℕ). x ++ tag_text (key, text)) s.written ∙ append_assoc old (tags_text s.pairs) (tag_text (key, text)) ∙ ap (λ (x : List ℕ). old ++ x) (sym (text_more s.pairs (key, text)));
}

pub tags_end : (ms : Members) (tokens : List Token) (old now : List ℕ) (s : TagsSoFar ms tokens old now) → s.rest ≡ no_members → HasTagsOf ms old now
tags_end ms tokens old now s none = record { pairs = s.pairs; strings = s.strings ∙ ap (onto s.pairs) none; words = s.words; written = s.written }

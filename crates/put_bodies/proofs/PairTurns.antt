-- Pairs of strings, one after the other, and their words.
use Rattle.std.proofs.Common.{◌≡◌, ℕ, Bool, true, List, [], ◌∷◌, ◌++◌, sym, ap, subst, ◌∙◌}
use Rattle.json.specs.Token as t
use Rattle.json.specs.Json.{string, Members, member, no_members}
use Rattle.json.specs.Lex.{Lexeme, token, comma}
use Rattle.list_lemmas.proofs.EntryLemmas.{Each-append}
use Rattle.tsd_base.specs.TagList.{Pair}
use Rattle.put_bodies.specs.ElementParts.{HasTagWords, PairStands, TagsStand}
use Rattle.put_bodies.specs.LineWords.{IsTagText, onto, tag_text}
use Rattle.put_bodies.specs.TextScans.{MembersAt}
use Rattle.put_bodies.proofs.SpelledValues.{last_member, more_members, object_at, text_at}
use Rattle.put_bodies.proofs.TagTurns.{onto_more, text_more}

-- pairs were read, and the lexemes go on with others
pub record PairsSoFar (start now : List Lexeme) (worded : Bool) (words : List ℕ) : Type 0 where
  pub pairs : List Pair
  pub goes : (ms : Members) (rest : List Lexeme) → MembersAt ms now rest → MembersAt (onto pairs ms) start rest
  pub written : worded ≡ true → HasTagWords pairs words

pub pairs_start : (ls : List Lexeme) (words : List ℕ) → words ≡ [] → PairsSoFar ls ls true words
pairs_start ls words none = record { pairs = []; goes = λ ms rest at. at; written = λ is. record { plain = tt; text = none } }

more_words : (pairs : List Pair) (worded still : Bool) (before after : List ℕ) (pair : Pair) → (worded ≡ true → HasTagWords pairs before) → (still ≡ true → (worded ≡ true) × IsTagText pair × (after ≡ before ++ tag_text pair))
    → still ≡ true → HasTagWords (pairs ++ pair ∷ []) after
more_words pairs worded still before after pair had has is =
    let now = has is in
    let old = had now.0 in
    record {
      plain = Each-append IsTagText pairs (pair ∷ []) old.plain (now.1, tt);
      text = now.2 ∙ ap (λ (x : List ℕ). x ++ tag_text pair) old.text ∙ sym (text_more pairs pair);
    }

pub pairs_more : (start now rest later : List Lexeme) (worded still : Bool) (before after : List ℕ) → PairsSoFar start now worded before → PairStands now worded before still after rest → rest ≡ comma ∷ later → PairsSoFar start later still after
pairs_more start now rest later worded still before after so p is = record {
  pairs = so.pairs ++ p.pair ∷ [];
  goes = λ ms end at. subst (λ (x : Members). MembersAt x start end) (onto_more so.pairs p.pair ms)
      (so.goes (member p.pair.0 (string p.pair.1) ms) end (more_members p.pair.0 (string p.pair.1) ms now p.inside later end p.keyed (text_at p.pair.1 p.inside (comma ∷ later) (p.text ∙ ap (λ (r : List Lexeme). token (t.string p.pair.1) ∷ r) is)) at));
  written = more_words so.pairs worded still before after p.pair so.written p.words;
}

pub pairs_end : (ls start now rest later : List Lexeme) (worded still : Bool) (before after : List ℕ) → ls ≡ token t.begin_object ∷ start → PairsSoFar start now worded before → PairStands now worded before still after rest → rest ≡ token t.end_object ∷ later
    → TagsStand ls still after later
pairs_end ls start now rest later worded still before after opens so p is = record {
  pairs = so.pairs ++ p.pair ∷ [];
  at = object_at (onto (so.pairs ++ p.pair ∷ []) no_members) ls start later opens
      (subst (λ (x : Members). MembersAt x start later) (onto_more so.pairs p.pair no_members)
      (so.goes (member p.pair.0 (string p.pair.1) no_members) later (last_member p.pair.0 (string p.pair.1) now p.inside later p.keyed (text_at p.pair.1 p.inside (token t.end_object ∷ later) (p.text ∙ ap (λ (r : List Lexeme). token (t.string p.pair.1) ∷ r) is)))));
  written = more_words so.pairs worded still before after p.pair so.written p.words;
}

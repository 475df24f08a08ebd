-- Members, one after the other, and what is known of them.
use Rattle.std.proofs.Common.{◌≡◌, ℕ, Bool, true, false, cond, List, [], ◌∷◌, ◌++◌, Option, None, Some, IfSome, codes, bytes_eq, refl, sym, ap, subst, ◌∙◌}
use Rattle.std.specs.List.{AllByRecursion}
use Rattle.std.proofs.lemmas.Slice.Eq.{bytes_eq-Decides}
use Rattle.json.specs.Token as t
use Rattle.json.specs.Json.{Json, object, string, Members, member, no_members}
use Rattle.json.specs.Find.{later_or}
use Rattle.json.specs.Lex.{Lexeme, token, comma}
use Rattle.list_lemmas.proofs.EntryLemmas.{Each-append}
use Rattle.std.specs.Borrow.{Bor}
use Rattle.tsd_base.specs.TagList.{Pair}
use Rattle.put_bodies.specs.ElementParts.{HasParts, HasTagWords, HasTags, IsRead, IsTimeWord, IsValueWord, MemberStands, MembersStand, Named, in_front, last_at}
use Rattle.put_bodies.specs.LineWords.{onto}
use Rattle.put_bodies.specs.TextScans.{IsLexeme, MembersAt, ValueAt, lexemes}
use Rattle.put_bodies.specs.declared.element_scan.ElementParts.{ElementParts}
use Rattle.put_bodies.proofs.SpelledValues.{last_member, more_members, object_at}

-- a byte of punctuation, as it was met
pub marked : (b mark : ℕ) (l : Lexeme) (text : List ℕ) (ls : List Lexeme) → IsLexeme b l → mark ≡ b → lexemes (mark ∷ text) ≡ ls → ls ≡ l ∷ lexemes text
marked b mark l text ls of same is = sym is ∙ ap (λ c. lexemes (c ∷ text)) same ∙ of text

in_front_more : (front : List Named) (m : Named) (ms : Members) → in_front front (member m.0 m.1 ms) ≡ in_front (front ++ m ∷ []) ms
in_front_more [] m ms = refl
in_front_more (n ∷ front) m ms = ap (member n.0 n.1) (in_front_more front m ms)

-- ---- what stands last at a name

pub last_same : (name : List ℕ) (front : List Named) (key : List ℕ) (j : Json) → bytes_eq key name ≡ true → last_at name (front ++ (key, j) ∷ []) ≡ Some j
last_same name [] key j e = rw e refl
last_same name (m ∷ front) key j e = ap (λ (o : Option Json). later_or o (cond (bytes_eq m.0 name) (Some m.1) None)) (last_same name front key j e)

last_other : (name : List ℕ) (front : List Named) (key : List ℕ) (j : Json) → bytes_eq key name ≡ false → last_at name (front ++ (key, j) ∷ []) ≡ last_at name front
last_other name [] key j e = rw e refl
last_other name (m ∷ front) key j e = ap (λ (o : Option Json). later_or o (cond (bytes_eq m.0 name) (Some m.1) None)) (last_other name front key j e)

some_as : {A : Type 0} {P Q : A → Type 0} (o : Option A) → ((a : A) → P a → Q a) → IfSome o P → IfSome o Q
some_as None f h = tt
some_as (Some a) f h = f a h

abbrev FoundSo : List ℕ → List Named → (Json → Type 0) → Type 0
FoundSo name front P = (j : Json) × (last_at name front ≡ Some j) × P j

stays_found : (name : List ℕ) (front : List Named) (key : List ℕ) (j : Json) (P : Json → Type 0) → bytes_eq key name ≡ false → FoundSo name front P → FoundSo name (front ++ (key, j) ∷ []) P
stays_found name front key j P other (i, found, holds) = (i, last_other name front key j other ∙ found, holds)

same_key : (key name : List ℕ) → bytes_eq key name ≡ true → key ≡ name
same_key key name e = (bytes_eq-Decides key name).0 e

-- ---- the parts, with a member more

module _ (front : List Named) (words : List ℕ) (key : List ℕ) (j : Json) (parts : ElementParts) (has : HasParts front parts words) where
  abbrev More : List Named
  More = front ++ (key, j) ∷ []

  keeps_metric : bytes_eq key (codes "metric") ≡ false → IfSome parts.metric (λ text. last_at (codes "metric") More ≡ Some (string text.now))
  keeps_metric other = some_as parts.metric (λ text found. last_other (codes "metric") front key j other ∙ found) has.metric

  keeps_time : bytes_eq key (codes "timestamp") ≡ false → IfSome parts.time (λ word. FoundSo (codes "timestamp") More (λ i. IsTimeWord i word.now))
  keeps_time other = some_as parts.time (λ word found. stays_found (codes "timestamp") front key j _ other found) has.time

  keeps_value : bytes_eq key (codes "value") ≡ false → IfSome parts.value (λ word. FoundSo (codes "value") More (λ i. IsValueWord i word.now))
  keeps_value other = some_as parts.value (λ word found. stays_found (codes "value") front key j _ other found) has.value

  keeps_tags : bytes_eq key (codes "tags") ≡ false → parts.tags ≡ true → HasTags More words
  keeps_tags other is = let tags = has.tags is in record { pairs = tags.pairs; found = last_other (codes "tags") front key j other ∙ tags.found; worded = tags.worded }

  found_at : (name : List ℕ) → key ≡ name → bytes_eq name name ≡ true → last_at name More ≡ Some j
  found_at name is same = last_same name front key j (subst (λ (k : List ℕ). bytes_eq k name ≡ true) (sym is) same)

  differs : (name other : List ℕ) → key ≡ name → bytes_eq name other ≡ false → bytes_eq key other ≡ false
  differs name other is e = subst (λ (k : List ℕ). bytes_eq k other ≡ false) (sym is) e

  pub with_metric : (metric : Option (Bor (List ℕ))) → bytes_eq key (codes "metric") ≡ true → IfSome metric (λ text. j ≡ string text.now) → HasParts More (record { metric = metric; time = parts.time; value = parts.value; tags = parts.tags }) words
  with_metric metric same known = let is = same_key key (codes "metric") same in record {
    metric = some_as metric (λ text same. found_at (codes "metric") is refl ∙ ap (λ (x : Json). Some x) same) known;
    time = keeps_time (differs (codes "metric") (codes "timestamp") is refl);
    value = keeps_value (differs (codes "metric") (codes "value") is refl);
    tags = keeps_tags (differs (codes "metric") (codes "tags") is refl);
  }

  pub with_time : (time : Option (Bor (List ℕ))) → bytes_eq key (codes "timestamp") ≡ true → IfSome time (λ word. IsTimeWord j word.now) → HasParts More (record { metric = parts.metric; time = time; value = parts.value; tags = parts.tags }) words
  with_time time same known = let is = same_key key (codes "timestamp") same in record {
    metric = keeps_metric (differs (codes "timestamp") (codes "metric") is refl);
    time = some_as time (λ word so. (j, found_at (codes "timestamp") is refl, so)) known;
    value = keeps_value (differs (codes "timestamp") (codes "value") is refl);
    tags = keeps_tags (differs (codes "timestamp") (codes "tags") is refl);
  }

  pub with_value : (value : Option (Bor (List ℕ))) → bytes_eq key (codes "value") ≡ true → IfSome value (λ word. IsValueWord j word.now) → HasParts More (record { metric = parts.metric; time = parts.time; value = value; tags = parts.tags }) words
  with_value value same known = let is = same_key key (codes "value") same in record {
    metric = keeps_metric (differs (codes "value") (codes "metric") is refl);
    time = keeps_time (differs (codes "value") (codes "timestamp") is refl);
    value = some_as value (λ word so. (j, found_at (codes "value") is refl, so)) known;
    tags = keeps_tags (differs (codes "value") (codes "tags") is refl);
  }

  pub with_other : bytes_eq key (codes "metric") ≡ false → bytes_eq key (codes "timestamp") ≡ false → bytes_eq key (codes "value") ≡ false → bytes_eq key (codes "tags") ≡ false → HasParts More parts words
  with_other m t v g = record { metric = keeps_metric m; time = keeps_time t; value = keeps_value v; tags = keeps_tags g }

-- the words of tags take the place of those that were there
pub with_tags : (front : List Named) (before after key : List ℕ) (parts : ElementParts) (pairs : List Pair) (worded : Bool) → HasParts front parts before → bytes_eq key (codes "tags") ≡ true → (worded ≡ true → HasTagWords pairs after)
    → HasParts (front ++ (key, object (onto pairs no_members)) ∷ []) (record { metric = parts.metric; time = parts.time; value = parts.value; tags = worded }) after
with_tags front before after key parts pairs worded has same words =
    let j = object (onto pairs no_members) in
    let is = same_key key (codes "tags") same in
    record {
      metric = keeps_metric front before key j parts has (differs front before key j parts has (codes "tags") (codes "metric") is refl);
      time = keeps_time front before key j parts has (differs front before key j parts has (codes "tags") (codes "timestamp") is refl);
      value = keeps_value front before key j parts has (differs front before key j parts has (codes "tags") (codes "value") is refl);
      tags = λ e. record { pairs = pairs; found = found_at front before key j parts has (codes "tags") is refl; worded = words e };
    }

-- nothing is known of no members
pub no_parts : (words : List ℕ) → HasParts [] (record { metric = None; time = None; value = None; tags = false }) words
no_parts words = record { metric = tt; time = tt; value = tt; tags = λ e. absurd (cc) }

-- ---- one member after the other

-- members were read, and the lexemes go on with others
pub record MembersSoFar (start now : List Lexeme) (parts : ElementParts) (words : List ℕ) : Type 0 where
  pub front : List Named
  pub goes : (ms : Members) (rest : List Lexeme) → MembersAt ms now rest → MembersAt (in_front front ms) start rest
  pub read : AllByRecursion (λ m. IsRead 1 m.1) front
  pub known : HasParts front parts words

pub members_start : (ls : List Lexeme) (parts : ElementParts) (words : List ℕ) → HasParts [] parts words → MembersSoFar ls ls parts words
members_start ls parts words has = record { front = []; goes = λ ms rest at. at; read = tt; known = has }

pub members_more : (start now rest later : List Lexeme) (old new : ElementParts) (before after : List ℕ) → MembersSoFar start now old before → MemberStands now old before new after rest → rest ≡ comma ∷ later → MembersSoFar start later new after
members_more start now rest later old new before after so m is = record {
  front = so.front ++ (m.key, m.j) ∷ [];
  goes = λ ms end at. subst (λ (x : Members). MembersAt x start end) (in_front_more so.front (m.key, m.j) ms) (so.goes (member m.key m.j ms) end (more_members m.key m.j ms now m.inside later end m.keyed (subst (ValueAt m.j m.inside) is m.at) at));
  read = Each-append (λ (m : Named). IsRead 1 m.1) so.front ((m.key, m.j) ∷ []) so.read (m.read, tt);
  known = m.parts so.front so.known;
}

pub members_end : (ls start now rest later : List Lexeme) (old new : ElementParts) (before after : List ℕ) → ls ≡ token t.begin_object ∷ start → MembersSoFar start now old before → MemberStands now old before new after rest → rest ≡ token t.end_object ∷ later
    → MembersStand ls new after later
members_end ls start now rest later old new before after opens so m is = record {
  front = so.front ++ (m.key, m.j) ∷ [];
  at = object_at (in_front (so.front ++ (m.key, m.j) ∷ []) no_members) ls start later opens
      (subst (λ (x : Members). MembersAt x start later) (in_front_more so.front (m.key, m.j) no_members) (so.goes (member m.key m.j no_members) later (last_member m.key m.j now m.inside later m.keyed (subst (ValueAt m.j m.inside) is m.at))));
  read = Each-append (λ (m : Named). IsRead 1 m.1) so.front ((m.key, m.j) ∷ []) so.read (m.read, tt);
  known = m.parts so.front so.known;
}

-- What the members of an element say of it.
use Rattle.std.specs.Prelude.{◌≡◌, ℕ, ◌≤◌, Bool, true, List, [], ◌∷◌, ◌++◌, Option, Some, IfSome, codes}
use Rattle.std.specs.List.{AllByRecursion}
use Rattle.json.specs.Token as t
use Rattle.json.specs.Json.{Json, string, number, object, Members, no_members, member}
use Rattle.json.specs.Find.{get_member}
use Rattle.json.specs.Lex.{Lexeme, token, colon}
use Rattle.json.specs.Tree.{depth}
use Rattle.serde_json.specs.Data.{Data}
use Rattle.serde_json.specs.Read.{of_json}
use Rattle.tsd_base.specs.declared.points.PointFault.TheVariants.{Time, Value}
use Rattle.tsd_base.specs.TagList.{Pair}
use Rattle.tsd_base.specs.Times.{time_of}
use Rattle.tsd_base.specs.Values.{value_of}
use Rattle.json_points.specs.Elements.{time_in, told, value_in}
use Rattle.put_bodies.specs.LineWords.{IsTagText, IsWord, onto, tag_text, tags_text}
use Rattle.put_bodies.specs.TextNumbers.{IsOfKind}
use Rattle.put_bodies.specs.TextScans.{ValueAt}
use Rattle.put_bodies.specs.ElementLines.{IsLineOf}
use Rattle.put_bodies.specs.declared.text_numbers.NumberKind.{NumberKind}
use Rattle.put_bodies.specs.declared.element_scan.ElementParts.{ElementParts}
use Rattle.put_bodies.specs.declared.element_scan.PlainValue.{PlainValue}
use Rattle.put_bodies.specs.declared.element_scan.PlainValue.TheVariants.{Text, Number}

abbrev pub IsNumberOf : NumberKind → List ℕ → Json → Type 0
IsNumberOf kind text j = (j ≡ number text) × IsOfKind kind text

abbrev pub IsOf : PlainValue → Json → Type 0
IsOf (Text text) j = j ≡ string text.now
IsOf (Number kind text) j = IsNumberOf kind text.now j

-- a string or a number stands here
pub record ValueStands (v : PlainValue) (ls rest : List Lexeme) : Type 0 where
  pub j : Json
  pub is : IsOf v j
  pub at : ValueAt j ls rest

-- a value that has data, and isn't deep
pub record IsRead (most : ℕ) (j : Json) : Type 0 where
  pub d : Data
  pub reads : of_json j ≡ Some d
  pub shallow : depth j ≤ most

abbrev pub Named : Type 0
Named = List ℕ × Json

-- these members, in front of others
abbrev pub in_front : List Named → Members → Members
in_front [] ms = ms
in_front (m ∷ front) ms = member m.0 m.1 (in_front front ms)

-- what stands last at a name
abbrev pub last_at : List ℕ → List Named → Option Json
last_at name front = get_member name (in_front front no_members)

-- the word is read as the timestamp is
pub record IsTimeWord (j : Json) (word : List ℕ) : Type 0 where
  pub full : IsWord word
  pub d : Data
  pub reads : of_json j ≡ Some d
  pub same : time_in d ≡ told (λ _. Time) (time_of word)

-- the word is read as the value is
pub record IsValueWord (j : Json) (word : List ℕ) : Type 0 where
  pub full : IsWord word
  pub d : Data
  pub reads : of_json j ≡ Some d
  pub same : value_in d ≡ told Value (value_of word)

-- the words are those of these strings
pub record HasTagWords (pairs : List Pair) (words : List ℕ) : Type 0 where
  pub plain : AllByRecursion IsTagText pairs
  pub text : words ≡ tags_text pairs

pub record HasTags (front : List Named) (words : List ℕ) : Type 0 where
  pub pairs : List Pair
  pub found : last_at (codes "tags") front ≡ Some (object (onto pairs no_members))
  pub worded : HasTagWords pairs words

-- what is known of the members that came so far
pub record HasParts (front : List Named) (parts : ElementParts) (words : List ℕ) : Type 0 where
  pub metric : IfSome parts.metric (λ text. last_at (codes "metric") front ≡ Some (string text.now))
  pub time : IfSome parts.time (λ word. (j : Json) × (last_at (codes "timestamp") front ≡ Some j) × IsTimeWord j word.now)
  pub value : IfSome parts.value (λ word. (j : Json) × (last_at (codes "value") front ≡ Some j) × IsValueWord j word.now)
  pub tags : parts.tags ≡ true → HasTags front words

-- a member stands here, and this is known behind it
pub record MemberStands (ls : List Lexeme) (old : ElementParts) (before : List ℕ) (new : ElementParts) (after : List ℕ) (rest : List Lexeme) : Type 0 where
  pub key : List ℕ
  pub inside : List Lexeme
  pub keyed : ls ≡ token (t.string key) ∷ colon ∷ inside
  pub j : Json
  pub at : ValueAt j inside rest
  pub read : IsRead 1 j
  pub parts : (front : List Named) → HasParts front old before → HasParts (front ++ (key, j) ∷ []) new after

-- members stand here, and this is known behind the brace
pub record MembersStand (ls : List Lexeme) (parts : ElementParts) (words : List ℕ) (rest : List Lexeme) : Type 0 where
  pub front : List Named
  pub at : ValueAt (object (in_front front no_members)) ls rest
  pub read : AllByRecursion (λ m. IsRead 1 m.1) front
  pub known : HasParts front parts words

-- an element stands here, and the line is of it
pub record ElementStands (ls : List Lexeme) (line : List ℕ) (rest : List Lexeme) : Type 0 where
  pub j : Json
  pub at : ValueAt j ls rest
  pub read : IsRead 2 j
  pub of : IsLineOf line read.d

-- a pair of strings stands here, and its word was written where all before it have one
pub record PairStands (ls : List Lexeme) (worded : Bool) (before : List ℕ) (still : Bool) (after : List ℕ) (rest : List Lexeme) : Type 0 where
  pub pair : Pair
  pub inside : List Lexeme
  pub keyed : ls ≡ token (t.string pair.0) ∷ colon ∷ inside
  pub text : inside ≡ token (t.string pair.1) ∷ rest
  pub words : still ≡ true → (worded ≡ true) × IsTagText pair × (after ≡ before ++ tag_text pair)

-- an object of strings stands here, and their words were written where each has one
pub record TagsStand (ls : List Lexeme) (worded : Bool) (words : List ℕ) (rest : List Lexeme) : Type 0 where
  pub pairs : List Pair
  pub at : ValueAt (object (onto pairs no_members)) ls rest
  pub written : worded ≡ true → HasTagWords pairs words

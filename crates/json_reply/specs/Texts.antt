-- The parts of a reply's text.
use Rattle.std.specs.Prelude.{ℕ, ◌/◌, Bool, List, [], ◌∷◌, ◌++◌, map, ℤ, codes, decimal, if◌then◌else◌, ◌≡◌}
use Rattle.std.specs.List.{join_with_byte}
use Rattle.std.specs.Fmt.{signed_decimal}
use Rattle.std.specs.FinMap.{from_entries, entries}
use Rattle.std.specs.declared.cmp.Ordering.TheVariants.{Less}
use Rattle.tsd_base.specs.TagList.{Pair}
use Rattle.list_lemmas.specs.BytesOrder.{bytes_cmp}

-- names need no escapes
abbrev pub quoted : List ℕ → List ℕ
quoted text = 34 ∷ text ++ 34 ∷ []

abbrev pub listed : List (List ℕ) → List ℕ
listed texts = join_with_byte 44 texts

-- a key with its value, both names
abbrev pub tag_text : Pair → List ℕ
tag_text pair = quoted pair.0 ++ 58 ∷ quoted pair.1

-- a time's text with its value
abbrev pub dot_text : List ℕ × ℤ → List ℕ
dot_text dot = quoted dot.0 ++ 58 ∷ signed_decimal dot.1

-- a time of milliseconds, in milliseconds or else in seconds
abbrev pub time_text : Bool → ℕ → List ℕ
time_text ms time = decimal (if ms then time else time / 1000)

-- values under the texts of their times
abbrev pub under_texts : Bool → List (ℕ × ℤ) → List (List ℕ × ℤ)
under_texts ms dots = map (λ dot. (time_text ms dot.0, dot.1)) dots

-- in byte order of these texts; of two with one text the first counts
abbrev pub keyed : Bool → List (ℕ × ℤ) → List (List ℕ × ℤ)
keyed ms dots = entries (from_entries {R = bytes_cmp} (under_texts ms dots))

-- the texts of the times
abbrev pub texts_of : Bool → List (ℕ × ℤ) → List (List ℕ)
texts_of ms dots = map (λ dot. time_text ms dot.0) dots

-- each text is below the next, byte by byte
abbrev pub Rise : List (List ℕ) → Type 0
Rise [] = Unit {0}
Rise (text ∷ []) = Unit {0}
Rise (text ∷ next ∷ texts) = (bytes_cmp text next ≡ Less) × Rise (next ∷ texts)

-- a JSON array of names
abbrev pub names_text : List (List ℕ) → List ℕ
names_text names = codes "[" ++ listed (map quoted names) ++ codes "]"

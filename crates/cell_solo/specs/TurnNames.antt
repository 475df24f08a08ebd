-- Names in a block of bytes, one after the other, each behind its length.
use Rattle.std.specs.Prelude.{ℕ, zero, suc, List, [], ◌∷◌, ◌++◌, length, take, drop}
use Rattle.tsd_base.specs.TagList.{Pair}

-- a name behind its length
abbrev pub told : List ℕ → List ℕ
told name = length name ∷ name

-- the names of tags, key before value
abbrev pub told_tags : List Pair → List ℕ
told_tags [] = []
told_tags (t ∷ tags) = told t.0 ++ (told t.1 ++ told_tags tags)

-- the names of a point
abbrev pub told_names : List ℕ → List Pair → List ℕ
told_names metric tags = told metric ++ told_tags tags

-- the first name
abbrev pub first_name : List ℕ → List ℕ
first_name [] = []
first_name (n ∷ bytes) = take n bytes

-- what stands behind the first name
abbrev pub behind_name : List ℕ → List ℕ
behind_name [] = []
behind_name (n ∷ bytes) = drop n bytes

-- the first n pairs of names
abbrev pub tags_in : ℕ → List ℕ → List Pair
tags_in zero bytes = []
tags_in (suc n) bytes = (first_name bytes, first_name (behind_name bytes)) ∷ tags_in n (behind_name (behind_name bytes))

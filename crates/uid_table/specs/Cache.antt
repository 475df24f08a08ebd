-- The pairs of names and ids that are kept.
use Rattle.std.specs.Prelude.{◌≡◌, ℕ, ◌<◌, ◌≤◌, List, length, Contains}
use Rattle.lru.specs.LruCache.{LruCache}
use Rattle.cell_model.specs.Seen.{Seen, IsPossible}
use Rattle.uid_table.specs.declared.cache.NameKey.{NameKey}
use Rattle.uid_table.specs.declared.cache.IdKey.{IdKey}
use Rattle.uid_table.specs.Shown.{HasShown, HasShownName}

-- each of the one is among the other
abbrev pub AreAmong : {X : Type 0} → List X → List X → Type 0
AreAmong xs ys = (x : _) → Contains xs x → Contains ys x

-- the caller has seen that the name has the id
abbrev pub IsShownId : Seen → NameKey × ℕ → Type 0
IsShownId s pair = HasShown s pair.0.kind pair.0.row.bytes pair.1 × IsPossible s

-- the caller has seen that the id has the name
abbrev pub IsShownName : Seen → IdKey × List ℕ → Type 0
IsShownName s pair = HasShownName s pair.0.kind pair.0.id pair.1 × IsPossible s

-- so it is of each id that is kept
abbrev pub KeepsIds : Seen → List (NameKey × ℕ) → Type 0
KeepsIds s ids = (pair : NameKey × ℕ) → Contains ids pair → IsShownId s pair

-- and of each name
abbrev pub KeepsNames : Seen → List (IdKey × List ℕ) → Type 0
KeepsNames s names = (pair : IdKey × List ℕ) → Contains names pair → IsShownName s pair

-- a cache keeps at most as many pairs as it may
abbrev pub IsWithin : {K V : Type 0} → LruCache K V → Type 0
IsWithin c = (0 < c.cap) × (length c.entries ≤ c.cap)

-- both caches do, and these are 1,000,000 at most
abbrev pub IsCapped : LruCache NameKey ℕ → LruCache IdKey (List ℕ) → Type 0
IsCapped ids names = IsWithin ids × IsWithin names × (ids.cap ≤ 1000000) × (names.cap ≤ 1000000)

-- as many pairs may be kept as before, and at most so many are kept where they were
pub record StaysWithin {K V : Type 0} (old new : LruCache K V) : Type 0 where
  pub cap : new.cap ≡ old.cap
  pub within : IsWithin old → IsWithin new

-- Rows with the pairs of names and ids that are kept, as callers see them.
use Rattle.std.specs.Prelude.{ℕ, List}
use Rattle.lru.specs.LruCache.{LruCache}
use Rattle.uid_table.specs.declared.cache.NameKey.{NameKey}
use Rattle.uid_table.specs.declared.cache.IdKey.{IdKey}

-- the rows, the ids that are kept by name, and the names that are kept by id
pub record NamedRows (R : Type 0) : Type 0 where
  pub rows : R
  pub ids : LruCache NameKey ℕ
  pub names : LruCache IdKey (List ℕ)

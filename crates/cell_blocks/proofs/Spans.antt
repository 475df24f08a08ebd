-- What a block's cells are after an edit, in the words of its heads.
use Rattle.std.proofs.Common.{◌≡◌, inl, inr, ℕ, zero, suc, ◌+◌, ◌≤◌, ◌<◌, List, [], ◌∷◌, ◌++◌, length, refl, sym, ap, subst, ◌∙◌, arith}
use Rattle.std.specs.Prelude.{insert, slice_set, slice_index_or, nat_lt, slice_get, Bool, true, false, Option, None, Some, if◌then◌else◌}
use Rattle.std.specs.List.{remove}
use Rattle.std.proofs.lemmas.List.{length-map, length-append, append_assoc}
use Rattle.qual_codec.specs.declared.cells.Cell.{Cell}
use Rattle.cell_blocks.specs.declared.mixed_cells.Head.{Head}
use Rattle.cell_blocks.specs.declared.mixed_cells.Long.{Long}
use Rattle.cell_blocks.specs.declared.mixed_cells.Span.{Span}
use Rattle.cell_blocks.specs.Packed.{cell_at, cells_at, end_of, span_at, span_short, span_long, spans, IsFound, AllFound, AllKept, IsKept, Tells, Extends, stamped_at}
use Rattle.cell_blocks.proofs.Packed.{moved, both, map_insert, map_set, map_remove, map_at, kept_at, kept_remove, cells_kept, kept_longer, inserted, inserted_kept, set_kept, was_set, stamp_kept, was_stamped, was_overwritten, overwritten_kept, cell_lengths}

-- a head with another version
abbrev pub restamped : Head → ℕ → Head
restamped h n = record { version = n; at = h.at; qual_len = h.qual_len; value_len = h.value_len }

found_longer : (n m : ℕ) (hs : List Head) → n ≤ m → AllFound n hs → AllFound m hs
found_longer n m [] le k = tt
found_longer n m (h ∷ hs) le (inl a, k) = (inl a, found_longer n m hs le k)
found_longer n m (h ∷ hs) le (inr a, k) = (inr (omega arith), found_longer n m hs le k)

found_insert : (n : ℕ) (hs : List Head) (i : ℕ) (h : Head) → AllFound n hs → IsFound n h → AllFound n (insert hs i h)
found_insert n [] zero h k p = (p, tt)
found_insert n [] (suc i) h k p = (p, tt)
found_insert n (x ∷ hs) zero h k p = (p, k)
found_insert n (x ∷ hs) (suc i) h k p = (k.0, found_insert n hs i h k.1 p)

found_set : (n : ℕ) (hs : List Head) (i : ℕ) (h : Head) → AllFound n hs → IsFound n h → AllFound n (slice_set hs i h)
found_set n [] i h k p = tt
found_set n (x ∷ hs) zero h k p = (p, k.1)
found_set n (x ∷ hs) (suc i) h k p = (k.0, found_set n hs i h k.1 p)

found_remove : (n : ℕ) (hs : List Head) (i : ℕ) → AllFound n hs → AllFound n (remove hs i)
found_remove n [] zero k = tt
found_remove n [] (suc i) k = tt
found_remove n (x ∷ hs) zero k = k.1
found_remove n (x ∷ hs) (suc i) k = (k.0, found_remove n hs i k.1)

found_at : (n : ℕ) (hs : List Head) (i : ℕ) (d : Head) → AllFound n hs → i < length hs → IsFound n (slice_index_or hs i d)
found_at n [] i d k lt = absurd (omega arith)
found_at n (x ∷ hs) zero d k lt = k.0
found_at n (x ∷ hs) (suc i) d k lt = found_at n hs i d k.1 (omega arith)

-- more long lengths change no span
spans_same : (old new : List Long) (hs : List Head) → Extends old new → AllFound (length old) hs → spans new hs ≡ spans old hs
spans_same old new [] e k = refl
spans_same old new (h ∷ hs) e k = λ i. e.same h k.0 i ∷ spans_same old new hs e k.1 i

moved_long : (o : Option Long) (v n : ℕ) → span_long o n ≡ moved (span_long o v) n
moved_long None v n = refl
moved_long (Some l) v n = refl

version_long : (o : Option Long) (n : ℕ) → n ≡ (span_long o n).version
version_long None n = refl
version_long (Some l) n = refl

moved_if : (b : Bool) (longs : List Long) (h : Head) (n : ℕ) → (if b then span_short (restamped h n) else span_long (slice_get longs h.at) n) ≡ moved (if b then span_short h else span_long (slice_get longs h.at) h.version) n
moved_if true longs h n = refl
moved_if false longs h n = moved_long (slice_get longs h.at) h.version n

span_moved : (longs : List Long) (h : Head) (n : ℕ) → span_at longs (restamped h n) ≡ moved (span_at longs h) n
span_moved longs h n = moved_if (nat_lt h.value_len 65535) longs h n

version_if : (b : Bool) (longs : List Long) (h : Head) → h.version ≡ (if b then span_short h else span_long (slice_get longs h.at) h.version).version
version_if true longs h = refl
version_if false longs h = version_long (slice_get longs h.at) h.version

pub version_told : (longs : List Long) (h : Head) → h.version ≡ (span_at longs h).version
version_told longs h = version_if (nat_lt h.value_len 65535) longs h

pub count : (bytes : List ℕ) (longs : List Long) (hs : List Head) → length (cells_at bytes (spans longs hs)) ≡ length hs
count bytes longs hs = length-map (spans longs hs) (cell_at bytes) ∙ length-map hs (span_at longs)

-- the head at i, its span and its cell
module _ (bytes : List ℕ) (longs : List Long) (hs : List Head) (i : ℕ) (h : Head) (s : Span) where
  pub record IsAt : Type 0 where
    pub kept : IsKept bytes longs hs
    pub in_range : i < length hs
    pub head : h ≡ slice_index_or hs i h
    pub span : s ≡ span_at longs h

  in_spans : IsAt → i < length (spans longs hs)
  in_spans a = omega (arith, a.in_range, length-map hs (span_at longs))

  pub span_is : IsAt → (d : Span) → s ≡ slice_index_or (spans longs hs) i d
  span_is a d = a.span ∙ ap (span_at longs) a.head ∙ sym (map_at (span_at longs) hs i h d a.in_range)

  pub span_fits : IsAt → s.at + s.qual_len + s.value_len ≤ length bytes
  span_fits a = subst (λ (x : Span). end_of x ≤ length bytes) (sym (span_is a s)) (kept_at (length bytes) (spans longs hs) i s a.kept.apart (in_spans a))

  pub cell_is : IsAt → (d : Cell) → slice_index_or (cells_at bytes (spans longs hs)) i d ≡ cell_at bytes s
  cell_is a d = map_at (cell_at bytes) (spans longs hs) i s d (in_spans a) ∙ ap (cell_at bytes) (sym (span_is a s))

  pub span_lengths : IsAt → (d : Cell) → (length (slice_index_or (cells_at bytes (spans longs hs)) i d).qual ≡ s.qual_len) × (length (slice_index_or (cells_at bytes (spans longs hs)) i d).value ≡ s.value_len)
  span_lengths a d = cell_lengths bytes (spans longs hs) i s d a.kept.apart (in_spans a) (span_is a s)

  restamp_spans : IsAt → (n : ℕ) → spans longs (slice_set hs i (restamped h n)) ≡ slice_set (spans longs hs) i (moved s n)
  restamp_spans a n = map_set (span_at longs) hs i (restamped h n) ∙ ap (λ (x : Span). slice_set (spans longs hs) i x) (span_moved longs h n ∙ ap (λ (x : Span). moved x n) (sym a.span))

  restamp_found : IsAt → (n : ℕ) → AllFound (length longs) (slice_set hs i (restamped h n))
  restamp_found a n = found_set (length longs) hs i (restamped h n) a.kept.found (subst (λ (x : Head). IsFound (length longs) (restamped x n)) (sym a.head) (found_at (length longs) hs i h a.kept.found a.in_range))

  pub restamp_kept : IsAt → (n : ℕ) → IsKept bytes longs (slice_set hs i (restamped h n))
  restamp_kept a n = record {
    apart = subst (AllKept (length bytes)) (sym (restamp_spans a n)) (stamp_kept (length bytes) (spans longs hs) i n s a.kept.apart (in_spans a) (span_is a));
    found = restamp_found a n;
  }

  pub restamp_cells : IsAt → (n : ℕ) (d : Cell) → cells_at bytes (spans longs (slice_set hs i (restamped h n))) ≡ slice_set (cells_at bytes (spans longs hs)) i (stamped_at (slice_index_or (cells_at bytes (spans longs hs)) i d) n)
  restamp_cells a n d = ap (cells_at bytes) (restamp_spans a n) ∙ was_stamped bytes (spans longs hs) i n s d (in_spans a) (span_is a)

  pub over_kept : IsAt → (q v : List ℕ) (n : ℕ) → s.qual_len ≡ length q → s.value_len ≡ length v → IsKept (both bytes s.at q v) longs (slice_set hs i (restamped h n))
  over_kept a q v n eq ev = record {
    apart = subst (AllKept (length (both bytes s.at q v))) (sym (restamp_spans a n)) (overwritten_kept bytes q v n (spans longs hs) i s a.kept.apart (in_spans a) (span_is a) eq ev);
    found = restamp_found a n;
  }

  pub over_cells : IsAt → (q v : List ℕ) (n : ℕ) → s.qual_len ≡ length q → s.value_len ≡ length v → cells_at (both bytes s.at q v) (spans longs (slice_set hs i (restamped h n))) ≡ slice_set (cells_at bytes (spans longs hs)) i (record { qual = q; value = v; version = n })
  over_cells a q v n eq ev = ap (cells_at (both bytes s.at q v)) (restamp_spans a n) ∙ was_overwritten bytes q v n (spans longs hs) i s a.kept.apart (in_spans a) (span_is a) eq ev

pub removed_kept : (bytes : List ℕ) (longs : List Long) (hs : List Head) (i : ℕ) → IsKept bytes longs hs → IsKept bytes longs (remove hs i)
removed_kept bytes longs hs i k = record {
  apart = subst (AllKept (length bytes)) (sym (map_remove (span_at longs) hs i)) (kept_remove (length bytes) (spans longs hs) i k.apart);
  found = found_remove (length longs) hs i k.found;
}

pub removed_cells : (bytes : List ℕ) (longs : List Long) (hs : List Head) (i : ℕ) → cells_at bytes (spans longs (remove hs i)) ≡ remove (cells_at bytes (spans longs hs)) i
removed_cells bytes longs hs i = ap (cells_at bytes) (map_remove (span_at longs) hs i) ∙ map_remove (cell_at bytes) (spans longs hs) i

-- a put behind the block
module _ (bytes : List ℕ) (old new : List Long) (hs : List Head) (kept : IsKept bytes old hs) (more : Extends old new) where
  -- that failed
  pub failed_kept : IsKept bytes new hs
  failed_kept = record {
    apart = subst (AllKept (length bytes)) (sym (spans_same old new hs more kept.found)) kept.apart;
    found = found_longer (length old) (length new) hs more.longer kept.found;
  }

  pub failed_cells : cells_at bytes (spans new hs) ≡ cells_at bytes (spans old hs)
  failed_cells = ap (cells_at bytes) (spans_same old new hs more kept.found)

  module _ (q v : List ℕ) (n i : ℕ) (h : Head) (tells : Tells new h (record { at = length bytes; qual_len = length q; value_len = length v; version = n })) where
    abbrev s : Span
    s = record { at = length bytes; qual_len = length q; value_len = length v; version = n }

    -- whose head failed
    pub headless_cells : cells_at (bytes ++ q ++ v) (spans new hs) ≡ cells_at bytes (spans old hs)
    headless_cells = ap (cells_at (bytes ++ q ++ v)) (spans_same old new hs more kept.found) ∙ subst (λ (b : List ℕ). cells_at b (spans old hs) ≡ cells_at bytes (spans old hs)) (sym (append_assoc bytes q v)) (cells_kept bytes (q ++ v) (spans old hs) kept.apart)

    pub headless_kept : IsKept (bytes ++ q ++ v) new hs
    headless_kept = record {
      apart = kept_longer (length bytes) (length (bytes ++ q ++ v)) (spans new hs) (omega (arith, length-append (bytes ++ q) v, length-append bytes q)) failed_kept.apart;
      found = failed_kept.found;
    }

    insert_spans : spans new (insert hs i h) ≡ insert (spans old hs) i s
    insert_spans = map_insert (span_at new) hs i h ∙ (λ j. insert (spans_same old new hs more kept.found j) i (tells.told j))

    set_spans : spans new (slice_set hs i h) ≡ slice_set (spans old hs) i s
    set_spans = map_set (span_at new) hs i h ∙ (λ j. slice_set (spans_same old new hs more kept.found j) i (tells.told j))

    pub put_kept : IsKept (bytes ++ q ++ v) new (insert hs i h)
    put_kept = record {
      apart = subst (AllKept (length (bytes ++ q ++ v))) (sym insert_spans) (inserted_kept bytes q v n (spans old hs) i kept.apart);
      found = found_insert (length new) hs i h failed_kept.found tells.found;
    }

    pub put_cells : cells_at (bytes ++ q ++ v) (spans new (insert hs i h)) ≡ insert (cells_at bytes (spans old hs)) i (record { qual = q; value = v; version = n })
    put_cells = ap (cells_at (bytes ++ q ++ v)) insert_spans ∙ inserted bytes q v n (spans old hs) i kept.apart

    pub reset_kept : IsKept (bytes ++ q ++ v) new (slice_set hs i h)
    reset_kept = record {
      apart = subst (AllKept (length (bytes ++ q ++ v))) (sym set_spans) (set_kept bytes q v n (spans old hs) i kept.apart);
      found = found_set (length new) hs i h failed_kept.found tells.found;
    }

    pub reset_cells : cells_at (bytes ++ q ++ v) (spans new (slice_set hs i h)) ≡ slice_set (cells_at bytes (spans old hs)) i (record { qual = q; value = v; version = n })
    reset_cells = ap (cells_at (bytes ++ q ++ v)) set_spans ∙ was_set bytes q v n (spans old hs) i kept.apart

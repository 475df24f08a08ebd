-- Reading the rows of a series, hour by hour.
use Rattle.std.proofs.Common.{◌≡◌, inl, inr, ℕ, ◌+◌, ◌-◌, ◌*◌, ◌%◌, ◌<◌, ◌≤◌, List, [], ◌∷◌, ◌++◌, refl, sym, ap, subst, ◌∙◌, arith, length-append}
use Rattle.std.specs.Prelude.{ℤ, All, Contains, Option, None, Some, Result, Ok, Err}
use Rattle.std.proofs.lemmas.List.Elements.{Contains-append_left, Contains-append_right}
use Rattle.list_lemmas.proofs.ListMembers.{here}
use Rattle.list_lemmas.proofs.ListParts.{all_of}
use Rattle.row_hours.specs.declared.hours.TheConstants.{HOUR}
use Rattle.row_key.specs.declared.widths.Widths.{Widths}
use Rattle.row_key.specs.declared.keys.RowKey.{RowKey}
use Rattle.row_key.specs.Key.{IsKey, key_bytes}
use Rattle.qual_codec.specs.declared.cells.Cell.{Cell}
use Rattle.qual_codec.specs.declared.cells.Dot.{Dot}
use Rattle.qual_codec.specs.CellDots.{Reads}
use Rattle.cell_model.specs.declared.row.Row.{Row}
use Rattle.cell_model.specs.declared.events.Placed.{Placed}
use Rattle.cell_model.specs.declared.events.Step.TheVariants.{Read}
use Rattle.cell_model.specs.declared.events.Reply.TheVariants.{Shown}
use Rattle.cell_model.specs.declared.answers.RowsFault.{RowsFault}
use Rattle.cell_model.specs.declared.answers.RowsFault.TheVariants as rows
use Rattle.cell_model.specs.Machine.{reply_of}
use Rattle.cell_model.specs.Store.{Store, cells_of}
use Rattle.cell_model.specs.History.{History, first, store_after, entry_at}
use Rattle.cell_model.specs.Lawful.{IsLawful}
use Rattle.cell_model.specs.Readings.{point_row}
use Rattle.cell_model.specs.Calls.{Leaves}
use Rattle.cell_model.specs.Seen.{Seen, Waited, Stepped, IsPossible}
use Rattle.cell_model.specs.Deeds.{Made, MadeSo, placed}
use Rattle.cell_laws.proofs.CallerLemmas.{first_lawful, each_entry, each_reads, wait_made, step_made, made_joined, made_stands, nothing_made}
use Rattle.row_scan.proofs.CallerLemmas.{cell_at}
use Rattle.uid_table.specs.PlacedPoints.{key_at}
use Rattle.metric_scan.specs.declared.fault.AskFault.{AskFault}
use Rattle.metric_scan.specs.declared.fault.AskFault.TheVariants as ask
use Rattle.metric_scan.specs.AskFaults.{ask_fault, is_stop}
use Rattle.series_meta.specs.HourWalks.{AreFewReads, PointOf, GivesPoint, ReadsRow, RowSays, HasPassed, WalkedTo, WalkSays}
use Rattle.series_meta.proofs.NameLooks.{no_reads, one_read, reads_joined}
use Rattle.series_meta.proofs.LatestDots.{le_or}

-- ---- a row that was read

-- the reply to a read that stands is what the store had there
pub shown_cells : (h : History) (p : Placed) (row : Row) (cells : List Cell) → IsLawful h → entry_at h p.place ≡ Some p.entry → p.entry.step ≡ Read row → p.entry.reply ≡ Shown cells → cells ≡ cells_of (store_after (first (p.place - 1) h)) row
shown_cells h p row cells lawful at step reply =
    let s = store_after (first (p.place - 1) h) in
    let legal : Shown cells ≡ Shown (cells_of s row) = sym reply ∙ (each_entry h p.place p.entry lawful at).reply ∙ ap (reply_of s p.place) step in cc

-- its cells read
pub cells_read : (old new : Seen) (row : Row) (bytes : List ℕ) (cells : List Cell) → Stepped old (Read row) (Shown cells) new → IsPossible new → row ≡ point_row bytes → All (λ (c : Cell). Reads c.qual c.value) cells
cells_read old new row bytes cells s possible is =
    let h = possible.history in
    let p : Placed = placed new.length (record { caller = old.caller; step = Read row; reply = Shown cells }) in
    let made = step_made old new (Read row) (Shown cells) s possible in
    let at = (made_stands old new (p ∷ []) h made possible.fits).each p (here p []) in
    let store = store_after (first (p.place - 1) h) in
    let shown = shown_cells h p row cells possible.lawful at.1 refl refl in
    all_of (λ (c : Cell). Reads c.qual c.value) cells (λ c i.
    each_reads (first (p.place - 1) h) row c.qual c.value (first_lawful h (p.place - 1) possible.lawful) (ap (λ (r : Row). r.table) is) (cell_at store row c (subst (λ (l : List Cell). Contains l c) shown i)))

few_nothing : AreFewReads 1 []
few_nothing = (no_reads, omega arith)

few_one : (p : Placed) (row : Row) (cells : List Cell) → p.entry.step ≡ Read row → p.entry.reply ≡ Shown cells → AreFewReads 1 (p ∷ [])
few_one p row cells step reply = (one_read p row cells step reply, omega arith)

-- no memory for the row
pub row_lost : (w : Widths) (key : RowKey) (now : ℕ) (s : Seen) → MadeSo s (RowSays w key now (Err ask.OutOfMemory)) s
row_lost w key now s = ([], nothing_made s, few_nothing)

-- the read wasn't made
pub row_unread : (w : Widths) (key : RowKey) (now : ℕ) (old new : Seen) (fault : RowsFault) → Waited old new → (IsPossible old → IsPossible new) → MadeSo old (RowSays w key now (Err (ask_fault fault))) new
row_unread w key now old new rows.OutOfMemory waited lives = ([], wait_made old new waited lives, few_nothing)
row_unread w key now old new rows.Stopped waited lives = ([], wait_made old new waited lives, few_nothing)

row_says : (w : Widths) (key : RowKey) (now : ℕ) (cells : List Cell) (p : Placed) (result : Result (Option (ℕ × ℤ)) AskFault) → p.entry.step ≡ Read (point_row (key_bytes w key)) → p.entry.reply ≡ Shown cells → GivesPoint cells key.base now result → RowSays w key now result (p ∷ [])
row_says w key now cells p (Ok None) step reply g = (p, refl, (g.0, record { cells = cells; did = (step, reply); are_dots = g.1 }, g.2))
row_says w key now cells p (Ok (Some point)) step reply g = (p, refl, (g.0, record { cells = cells; did = (step, reply); are_dots = g.1 }, g.2))
row_says w key now cells p (Err (ask.Duplicate time a b)) step reply g = (p, refl, (g.0, record { cells = cells; did = (step, reply); are_dots = g.1 }, g.2))
row_says w key now cells p (Err ask.OutOfMemory) step reply g = few_one p (point_row (key_bytes w key)) cells step reply
row_says w key now cells p (Err ask.Stopped) step reply g = absurd g.2
row_says w key now cells p (Err (ask.Unknown kind name)) step reply g = absurd g.2
row_says w key now cells p (Err (ask.TooManyBuckets count)) step reply g = absurd g.2
row_says w key now cells p (Err (ask.BadFilter index)) step reply g = absurd g.2
row_says w key now cells p (Err (ask.Overflow time)) step reply g = absurd g.2

-- the answer of what was read
pub row_read : (w : Widths) (key : RowKey) (now : ℕ) (old new : Seen) (row : Row) (cells : List Cell) (result : Result (Option (ℕ × ℤ)) AskFault) → row ≡ point_row (key_bytes w key) → Stepped old (Read row) (Shown cells) new → IsPossible new → GivesPoint cells key.base now result
    → MadeSo old (RowSays w key now result) new
row_read w key now old new row cells result is s possible g =
    let p : Placed = placed new.length (record { caller = old.caller; step = Read row; reply = Shown cells }) in
    (p ∷ [], step_made old new (Read row) (Shown cells) s possible, row_says w key now cells p result (ap Read is) refl g)

-- and it isn't a stop
pub read_leaves : (cells : List Cell) (base now : ℕ) (s : Seen) (before after : ℕ) (result : Result (Option (ℕ × ℤ)) AskFault) → GivesPoint cells base now result → IsPossible s → before ≤ after → Leaves is_stop result s before after
read_leaves cells base now s before after (Ok x) g possible le = record { possible = possible; grows = le; rose = tt }
read_leaves cells base now s before after (Err (ask.Duplicate time a b)) g possible le = record { possible = tt; grows = le; rose = tt }
read_leaves cells base now s before after (Err ask.OutOfMemory) g possible le = record { possible = tt; grows = le; rose = tt }
read_leaves cells base now s before after (Err ask.Stopped) g possible le = absurd g.2
read_leaves cells base now s before after (Err (ask.Unknown kind name)) g possible le = absurd g.2
read_leaves cells base now s before after (Err (ask.TooManyBuckets count)) g possible le = absurd g.2
read_leaves cells base now s before after (Err (ask.BadFilter index)) g possible le = absurd g.2
read_leaves cells base now s before after (Err (ask.Overflow time)) g possible le = absurd g.2

-- ---- the hours so far

-- so many hours were passed, from the key's on
pub record SoFar (key : RowKey) (now : ℕ) (old : Seen) (gone : ℕ) (at : RowKey) (s : Seen) : Type 0 where
  pub own : List Placed
  pub made : Made old own s
  pub few : AreFewReads gone own
  pub at_is : at ≡ key_at key at.base
  pub passed : (base : ℕ) → base % HOUR ≡ 0 → base ≤ key.base → key.base < base + gone * HOUR → HasPassed old.base.widths key now own base

pub far_none : (key : RowKey) (now : ℕ) (s : Seen) → SoFar key now s 0 key s
far_none key now s = record { own = []; made = nothing_made s; few = (no_reads, omega arith); at_is = refl; passed = λ base hour le lt. absurd (omega (arith, le, lt)) }

-- the key of the same series at another hour
pub hour_key : (w : Widths) (key : RowKey) (base : ℕ) → IsKey w key → base % HOUR ≡ 0 → base ≤ key.base → IsKey w (key_at key base)
hour_key w key base k whole le = record { metric = k.metric; base = let b = k.base in omega (arith, b, le); hour = whole; some = k.some; most = k.most; ids = k.ids; rising = k.rising }

more_passed : (w : Widths) (key : RowKey) (now : ℕ) (own more : List Placed) (base : ℕ) → HasPassed w key now own base → HasPassed w key now (own ++ more) base
more_passed w key now own more base (p, c, rest) = (p, Contains-append_left own more p c, rest)

few_more : (gone n : ℕ) (own more : List Placed) → AreFewReads gone own → AreFewReads 1 more → gone + 1 ≤ n → AreFewReads n (own ++ more)
few_more gone n own more a b le = (reads_joined own more a.0 b.0, let x = a.1 in let y = b.1 in let l = length-append own more in omega (arith, x, y, l, le))

module _ (key : RowKey) (now : ℕ) (old s t : Seen) (gone base : ℕ) (at : RowKey) (far : SoFar key now old gone at s) (down : base + gone * HOUR ≡ key.base) (hour : key.base % HOUR ≡ 0) where
  its : key_at at base ≡ key_at key base
  its = ap (λ (k : RowKey). key_at k base) far.at_is

  widths : s.base.widths ≡ old.base.widths
  widths = ap (λ (b : Store). b.widths) far.made.since.extends.base

  -- what a row says, by the key of the first hour
  row_of : (dots : List Dot) (p : Placed) → ReadsRow s.base.widths (key_at at base) dots p → ReadsRow old.base.widths (key_at key base) dots p
  row_of dots p r = subst (λ (k : RowKey). ReadsRow old.base.widths k dots p) its (subst (λ (w : Widths). ReadsRow w (key_at at base) dots p) widths r)

  few_row : (p : Placed) (dots : List Dot) (more : List Placed) → more ≡ p ∷ [] → ReadsRow s.base.widths (key_at at base) dots p → AreFewReads 1 more
  few_row p dots more is r = subst (AreFewReads 1) (sym is) (few_one p (point_row (key_bytes s.base.widths (key_at at base))) r.cells r.did.0 r.did.1)

  pub far_more : MadeSo s (RowSays s.base.widths (key_at at base) now (Ok None)) t → SoFar key now old (gone + 1) (key_at at base) t
  far_more (more, made, (p, is, (dots, reads, later))) = record {
    own = far.own ++ more;
    made = made_joined old s t far.own more far.made made;
    few = few_more gone (gone + 1) far.own more far.few (few_row p dots more is reads) (omega arith);
    at_is = its;
    passed = λ low whole le lt. elim (le_or (low + gone * HOUR) key.base) [
      | inl up ↦
          let same : base ≡ low = omega (arith, up, lt, down, hour, whole) in
          subst (HasPassed old.base.widths key now (far.own ++ more)) same (p, Contains-append_right far.own more p (subst (λ (l : List Placed). Contains l p) (sym is) (here p [])), (dots, row_of dots p reads, later))
      | inr above ↦ more_passed old.base.widths key now far.own more low (far.passed low whole le above)
    ];
  }

  module _ (back : ℕ) (within : gone < back + 1) (is_key : IsKey s.base.widths (key_at at base)) where
    pub walked_to : (result : Result (Option (ℕ × ℤ)) AskFault) (more : List Placed) (p : Placed) (dots : List Dot) → more ≡ p ∷ [] → ReadsRow s.base.widths (key_at at base) dots p → PointOf dots base now result → WalkedTo old.base.widths key now back (far.own ++ more) result (key_at at base)
    walked_to result more p dots is reads point = record {
      earlier = far.own;
      last = p;
      own_is = ap (λ (l : List Placed). far.own ++ l) is;
      at_is = its;
      is_key = subst (λ (w : Widths). IsKey w (key_at at base)) widths is_key;
      up_to = omega (arith, down);
      from_on = omega (arith, down, within);
      passed = λ low whole above le. more_passed old.base.widths key now far.own more low (far.passed low whole le (omega (arith, above, down)));
      dots = dots;
      reads = subst (λ (w : Widths). ReadsRow w (key_at at base) dots p) widths reads;
      point = point;
    }

    pub walk_found : (point : ℕ × ℤ) → MadeSo s (RowSays s.base.widths (key_at at base) now (Ok (Some point))) t → WalkSays key now back old (Ok (Some point)) t (key_at at base)
    walk_found point (more, made, (p, is, (dots, reads, of))) = record {
      own = far.own ++ more;
      made = made_joined old s t far.own more far.made made;
      few = few_more gone (back + 1) far.own more far.few (few_row p dots more is reads) (omega (arith, within));
      is = walked_to (Ok (Some point)) more p dots is reads of;
    }

    pub walk_failed : (fault : AskFault) → MadeSo s (RowSays s.base.widths (key_at at base) now (Err fault)) t → WalkSays key now back old (Err fault) t (key_at at base)
    walk_failed (ask.Duplicate time a b) (more, made, (p, is, (dots, reads, of))) = record {
      own = far.own ++ more;
      made = made_joined old s t far.own more far.made made;
      few = few_more gone (back + 1) far.own more far.few (few_row p dots more is reads) (omega (arith, within));
      is = walked_to (Err (ask.Duplicate time a b)) more p dots is reads of;
    }
    walk_failed ask.OutOfMemory (more, made, few) = record { own = far.own ++ more; made = made_joined old s t far.own more far.made made; few = few_more gone (back + 1) far.own more far.few few (omega (arith, within)); is = tt }
    walk_failed ask.Stopped (more, made, few) = record { own = far.own ++ more; made = made_joined old s t far.own more far.made made; few = few_more gone (back + 1) far.own more far.few few (omega (arith, within)); is = tt }
    walk_failed (ask.Unknown kind name) (more, made, (p, is, (dots, reads, of))) = absurd of
    walk_failed (ask.TooManyBuckets count) (more, made, (p, is, (dots, reads, of))) = absurd of
    walk_failed (ask.BadFilter index) (more, made, (p, is, (dots, reads, of))) = absurd of
    walk_failed (ask.Overflow time) (more, made, (p, is, (dots, reads, of))) = absurd of

-- the key of the row that is read next
pub next_key : (key : RowKey) (now : ℕ) (old s : Seen) (gone base : ℕ) (at : RowKey) → SoFar key now old gone at s → base + gone * HOUR ≡ key.base → IsKey old.base.widths key → IsKey s.base.widths (key_at at base)
next_key key now old s gone base at far down is =
    let hour = is.hour in
    let its = hour_key old.base.widths key base is (omega (arith, down, hour)) (omega (arith, down)) in
    subst (λ (b : Store). IsKey b.widths (key_at at base)) (sym far.made.since.extends.base) (subst (IsKey old.base.widths) (ap (λ (k : RowKey). key_at k base) (sym far.at_is)) its)

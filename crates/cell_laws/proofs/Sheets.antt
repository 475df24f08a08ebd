-- The machine over plain lists of entries, which can be computed, is the machine.
use Rattle.std.proofs.Common.{◌≡◌, ℕ, ◌+◌, ◌%◌, ◌^◌, Bool, true, false, cond, List, [], ◌∷◌, ◌++◌, length, refl, sym, ap, ◌∙◌, arith}
use Rattle.std.specs.Prelude.{Option, None, Some, option_map, map, filter, not, nat_lt, if◌then◌else◌}
use Rattle.std.specs.Option.{option_map_or}
use Rattle.std.specs.Int.{w64, to_be_bytes, from_be_bytes}
use Rattle.std.specs.Ordering.{eq_by_cmp}
use Rattle.std.specs.FinMap.{empty, find, put, len-empty, len-entries, get-entries, entries-insert, entries_sorted, get-remove}
use Rattle.std.specs.FinMap as fin
use Rattle.std.specs.FinMap.Entries.{find-where_key, is_sorted-where_key, same_entries}
use Rattle.std.specs.Prelude as plain
use Rattle.std.specs.Cmp.{eq_by_cmp_equiv}
use Rattle.tsd_base.specs.declared.kinds.Kind.{Kind}
use Rattle.row_key.specs.declared.tables.Table.{Table}
use Rattle.qual_codec.specs.CellDots.{column_qual}
use Rattle.cell_model.specs.declared.answers.Bumped.{Bumped}
use Rattle.cell_model.specs.declared.answers.Bumped.TheVariants.{Given, Full}
use Rattle.cell_model.specs.declared.row.Row.{Row}
use Rattle.cell_model.specs.declared.row.Found.{Found}
use Rattle.qual_codec.specs.declared.cells.Cell.{Cell}
use Rattle.cell_model.specs.declared.events.Place.{Place}
use Rattle.cell_model.specs.declared.events.Content.{Content}
use Rattle.cell_model.specs.declared.events.Step.{Step}
use Rattle.cell_model.specs.declared.events.Step.TheVariants.{Open, Read, NextRow, Bump, Claim, PutPoint, AppendPoint, PutMerged, DropCells}
use Rattle.cell_model.specs.declared.events.Reply.{Reply}
use Rattle.cell_model.specs.declared.events.Reply.TheVariants.{Opened, Shown, Next, BumpReply, ClaimReply, Written, Removed}
use Rattle.cell_model.specs.KindWidths.{Widths}
use Rattle.cell_model.specs.Store.{Store, entries, get, remove, place_cmp, row_cmp, place_of, content_at, value_at, written, or_nothing, cell_of, is_between, is_dropped, dropped, drop_count}
use Rattle.cell_model.specs.Machine.{after, reply_of, or_written, claim_reply, counter_row, counter_of, kind_qual, greatest}
use Rattle.cell_model.specs.History.{History, base_of, len, store_after}
use Rattle.cell_model.specs.History.History.{Base, Then}
use Rattle.cell_model.proofs.CallerLemmas.{places_total, exact_places}

-- the entries of a store, rising by place
abbrev pub Sheet : Type 0
Sheet = List (Place × Content)

no_length : {A : Type 0} (xs : List A) → length xs ≡ 0 → xs ≡ []
no_length [] e = refl
no_length (x ∷ xs) e = absurd (omega (arith, e))

pub entries-empty : fin.entries (empty {X = Content} {R = place_cmp}) ≡ []
entries-empty = no_length _ (sym (len-entries (empty {X = Content} {R = place_cmp})) ∙ len-empty place_cmp Content)

abbrev pub without : Sheet → Place → Sheet
without es p = filter (λ e. not (eq_by_cmp place_cmp p e.0)) es

abbrev pub content_in : Sheet → Row → List ℕ → Option Content
content_in es row qual = find place_cmp (place_of row qual) es

abbrev pub value_in : Sheet → Row → List ℕ → Option (List ℕ)
value_in es row qual = option_map (λ (c : Content). c.value) (content_in es row qual)

abbrev pub written_in : Sheet → Row → List ℕ → List ℕ → ℕ → Sheet
written_in es row qual value version = put place_cmp (place_of row qual) (record { value = value; version = version }) es

abbrev pub counter_in : Sheet → Kind → ℕ
counter_in es kind = option_map_or (from_be_bytes w64) (value_in es counter_row (kind_qual kind)) 0

abbrev pub cells_in : Sheet → Row → List Cell
cells_in es row = map cell_of (filter (λ e. eq_by_cmp row_cmp row e.0.row) es)

abbrev pub next_in : Sheet → Table → List ℕ → List ℕ → Option Found
next_in es table from to =
    option_map (λ (e : Place × Content). record { row = e.0.row; cells = cells_in es e.0.row }) (plain.find (λ (e : Place × Content). is_between table from to e.0.row) es)

abbrev pub dropped_in : Sheet → Row → List (List ℕ × ℕ) → Sheet
dropped_in es row [] = es
dropped_in es row (d ∷ list) = dropped_in (if is_dropped (content_in es row d.0) d.1 then without es (place_of row d.0) else es) row list

abbrev pub count_in : Sheet → Row → List (List ℕ × ℕ) → ℕ
count_in es row [] = 0
count_in es row (d ∷ list) = if is_dropped (content_in es row d.0) d.1 then count_in (without es (place_of row d.0)) row list + 1 else count_in es row list

abbrev pub or_in : Option (List ℕ) → Sheet → Sheet → Sheet
or_in None new old = new
or_in (Some value) new old = old

abbrev pub after_in : Widths → Sheet → ℕ → Step → Sheet
after_in w es place Open = es
after_in w es place (Read row) = es
after_in w es place (NextRow table from to) = es
after_in w es place (Bump kind) = if nat_lt (counter_in es kind) (greatest w kind) then written_in es counter_row (kind_qual kind) (to_be_bytes w64 (counter_in es kind + 1)) (place % 2 ^ 64) else es
after_in w es place (Claim row qual value) = or_in (value_in es row qual) (written_in es row qual value (place % 2 ^ 64)) es
after_in w es place (PutPoint point row qual value) = written_in es row qual value (place % 2 ^ 64)
after_in w es place (AppendPoint point row piece) = written_in es row column_qual (or_nothing (value_in es row column_qual) ++ piece) (place % 2 ^ 64)
after_in w es place (PutMerged row qual value) = written_in es row qual value (place % 2 ^ 64)
after_in w es place (DropCells row which) = dropped_in es row which

abbrev pub bump_in : Widths → Sheet → Kind → Bumped
bump_in w es kind = if nat_lt (counter_in es kind) (greatest w kind) then Given (counter_in es kind + 1) else Full

abbrev pub reply_in : Widths → Sheet → ℕ → Step → Reply
reply_in w es place Open = Opened place
reply_in w es place (Read row) = Shown (cells_in es row)
reply_in w es place (NextRow table from to) = Next (next_in es table from to)
reply_in w es place (Bump kind) = BumpReply (bump_in w es kind)
reply_in w es place (Claim row qual value) = ClaimReply (claim_reply (value_in es row qual))
reply_in w es place (PutPoint point row qual value) = Written
reply_in w es place (AppendPoint point row piece) = Written
reply_in w es place (PutMerged row qual value) = Written
reply_in w es place (DropCells row which) = Removed (count_in es row which)

pub value_same : (s : Store) (row : Row) (qual : List ℕ) → value_at s row qual ≡ value_in (entries s) row qual
value_same s row qual = ap (option_map (λ (c : Content). c.value)) (get-entries s.cells (place_of row qual))

pub counter_same : (s : Store) (kind : Kind) → counter_of s kind ≡ counter_in (entries s) kind
counter_same s kind = ap (λ o. option_map_or (from_be_bytes w64) o 0) (value_same s counter_row (kind_qual kind))

written_same : (s : Store) (row : Row) (qual value : List ℕ) (version : ℕ) → entries (written s row qual value version) ≡ written_in (entries s) row qual value version
written_same s row qual value version = entries-insert places_total s.cells (place_of row qual) (record { value = value; version = version })

turned : (b c : Bool) (x : Option Content) → b ≡ c → cond b None x ≡ cond (not c) x None
turned true true x e = refl
turned true false x e = cc
turned false true x e = cc
turned false false x e = refl

without_same : (s : Store) (p : Place) → entries (remove s p) ≡ without (entries s) p
without_same s p = same_entries place_cmp places_total exact_places (entries (remove s p)) (without (entries s) p) (entries_sorted (remove s p).cells)
    (is_sorted-where_key place_cmp (λ x. not (eq_by_cmp place_cmp p x)) (entries s) (entries_sorted s.cells))
    (λ q. sym (get-entries (remove s p).cells q) ∙ get-remove places_total s.cells p q ∙ turned (eq_by_cmp place_cmp q p) (eq_by_cmp place_cmp p q) (get s q) ((eq_by_cmp_equiv places_total).symm q p)
    ∙ ap (λ o. cond (not (eq_by_cmp place_cmp p q)) o None) (get-entries s.cells q)
    ∙ sym (find-where_key place_cmp (λ x. not (eq_by_cmp place_cmp p x)) q (λ x e. ap (λ y. not (eq_by_cmp place_cmp p y)) (sym (exact_places q x e))) (entries s)))

dropped_same : (s : Store) (row : Row) (list : List (List ℕ × ℕ)) → entries (dropped s row list) ≡ dropped_in (entries s) row list
dropped_same s row [] = refl
dropped_same s row (d ∷ list) = at (is_dropped (content_at s row d.0) d.1) (ap (λ o. is_dropped o d.1) (get-entries s.cells (place_of row d.0))) (dropped_same (remove s (place_of row d.0)) row list) (dropped_same s row list)
  where
    at : (b : Bool) → b ≡ is_dropped (content_in (entries s) row d.0) d.1 → entries (dropped (remove s (place_of row d.0)) row list) ≡ dropped_in (entries (remove s (place_of row d.0))) row list
        → entries (dropped s row list) ≡ dropped_in (entries s) row list
        → entries (dropped (if b then remove s (place_of row d.0) else s) row list) ≡ dropped_in (if is_dropped (content_in (entries s) row d.0) d.1 then without (entries s) (place_of row d.0) else entries s) row list
    at true e one other = one ∙ ap (λ es. dropped_in es row list) (without_same s (place_of row d.0)) ∙ ap (λ b. dropped_in (if b then without (entries s) (place_of row d.0) else entries s) row list) e
    at false e one other = other ∙ ap (λ b. dropped_in (if b then without (entries s) (place_of row d.0) else entries s) row list) e

pub count_same : (s : Store) (row : Row) (list : List (List ℕ × ℕ)) → drop_count s row list ≡ count_in (entries s) row list
count_same s row [] = refl
count_same s row (d ∷ list) = at (is_dropped (content_at s row d.0) d.1) (ap (λ o. is_dropped o d.1) (get-entries s.cells (place_of row d.0))) (count_same (remove s (place_of row d.0)) row list) (count_same s row list)
  where
    at : (b : Bool) → b ≡ is_dropped (content_in (entries s) row d.0) d.1 → drop_count (remove s (place_of row d.0)) row list ≡ count_in (entries (remove s (place_of row d.0))) row list
        → drop_count s row list ≡ count_in (entries s) row list
        → (if b then drop_count (remove s (place_of row d.0)) row list + 1 else drop_count s row list) ≡ (if is_dropped (content_in (entries s) row d.0) d.1 then count_in (without (entries s) (place_of row d.0)) row list + 1 else count_in (entries s) row list)
    at true e one other = ap (λ n. n + 1) (one ∙ ap (λ es. count_in es row list) (without_same s (place_of row d.0))) ∙ ap (λ b. if b then count_in (without (entries s) (place_of row d.0)) row list + 1 else count_in (entries s) row list) e
    at false e one other = other ∙ ap (λ b. if b then count_in (without (entries s) (place_of row d.0)) row list + 1 else count_in (entries s) row list) e

claim_same : (s : Store) (row : Row) (qual value : List ℕ) (version : ℕ) (o : Option (List ℕ)) → entries (or_written o (written s row qual value version) s) ≡ or_in o (written_in (entries s) row qual value version) (entries s)
claim_same s row qual value version None = written_same s row qual value version
claim_same s row qual value version (Some v) = refl

bump_same : (s : Store) (place : ℕ) (kind : Kind) (n : ℕ) (b : Bool)
    → entries (if b then written s counter_row (kind_qual kind) (to_be_bytes w64 (n + 1)) (place % 2 ^ 64) else s) ≡ (if b then written_in (entries s) counter_row (kind_qual kind) (to_be_bytes w64 (n + 1)) (place % 2 ^ 64) else entries s)
bump_same s place kind n true = written_same s counter_row (kind_qual kind) (to_be_bytes w64 (n + 1)) (place % 2 ^ 64)
bump_same s place kind n false = refl

pub after_same : (s : Store) (place : ℕ) (step : Step) → entries (after s place step) ≡ after_in s.widths (entries s) place step
after_same s place Open = refl
after_same s place (Read row) = refl
after_same s place (NextRow table from to) = refl
after_same s place (Bump kind) =
    bump_same s place kind (counter_of s kind) (nat_lt (counter_of s kind) (greatest s.widths kind))
    ∙ ap (λ n. if nat_lt n (greatest s.widths kind) then written_in (entries s) counter_row (kind_qual kind) (to_be_bytes w64 (n + 1)) (place % 2 ^ 64) else entries s) (counter_same s kind)
after_same s place (Claim row qual value) =
    claim_same s row qual value _ (value_at s row qual) ∙ ap (λ o. or_in o (written_in (entries s) row qual value (place % 2 ^ 64)) (entries s)) (value_same s row qual)
after_same s place (PutPoint point row qual value) = written_same s row qual value _
after_same s place (AppendPoint point row piece) =
    written_same s row column_qual _ _ ∙ ap (λ o. written_in (entries s) row column_qual (or_nothing o ++ piece) (place % 2 ^ 64)) (value_same s row column_qual)
after_same s place (PutMerged row qual value) = written_same s row qual value _
after_same s place (DropCells row which) = dropped_same s row which

pub reply_same : (s : Store) (place : ℕ) (step : Step) → reply_of s place step ≡ reply_in s.widths (entries s) place step
reply_same s place Open = refl
reply_same s place (Read row) = refl
reply_same s place (NextRow table from to) = refl
reply_same s place (Bump kind) = ap (λ n. BumpReply (if nat_lt n (greatest s.widths kind) then Given (n + 1) else Full)) (counter_same s kind)
reply_same s place (Claim row qual value) = ap (λ o. ClaimReply (claim_reply o)) (value_same s row qual)
reply_same s place (PutPoint point row qual value) = refl
reply_same s place (AppendPoint point row piece) = refl
reply_same s place (PutMerged row qual value) = refl
reply_same s place (DropCells row which) = ap Removed (count_same s row which)

-- the history began with the empty store
abbrev pub IsFresh : History → Type 0
IsFresh h = (base_of h).cells ≡ empty

-- the entries of the store after it
abbrev pub sheet : History → Sheet
sheet (Base base) = []
sheet (Then h e) = after_in (store_after h).widths (sheet h) (len h + 1) e.step

pub sheet_same : (h : History) → IsFresh h → entries (store_after h) ≡ sheet h
sheet_same (Base base) fresh = ap fin.entries fresh ∙ entries-empty
sheet_same (Then h e) fresh = after_same (store_after h) (len h + 1) e.step ∙ ap (λ es. after_in (store_after h).widths es (len h + 1) e.step) (sheet_same h fresh)

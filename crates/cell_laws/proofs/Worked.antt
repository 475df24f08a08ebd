-- The worked examples, by computing them.
use Rattle.std.proofs.Common.{◌≡◌, ◌⊎◌, inl, inr, ℕ, ◌+◌, ◌-◌, ◌^◌, true, false, List, [], ◌∷◌, ◌++◌, length, take, refl, sym, ap, ◌∙◌, arith, slice_index_or}
use Rattle.std.specs.Prelude.{option_and_then}
use Rattle.std.specs.FinMap.{get-entries}
use Rattle.row_key.specs.Made.{three}
use Rattle.cell_model.specs.KindWidths.{kind_bytes}
use Rattle.tsd_base.specs.declared.kinds.Kind.TheVariants.{Metric}
use Rattle.tsd_base.specs.Alphabet.{IsName}
use Rattle.cell_model.specs.declared.row.Row.{Row}
use Rattle.cell_model.specs.declared.events.Entry.{Entry}
use Rattle.cell_model.specs.declared.events.Reply.{Reply}
use Rattle.cell_model.specs.declared.events.Step.{Step}
use Rattle.cell_model.specs.declared.events.Step.TheVariants.{Open, Read, Bump, Claim, PutMerged}
use Rattle.cell_model.specs.declared.events.Reply.TheVariants.{Opened, Shown, BumpReply, ClaimReply}
use Rattle.cell_model.specs.declared.answers.Bumped.TheVariants.{Given}
use Rattle.cell_model.specs.declared.answers.Claimed.TheVariants.{Done, Held}
use Rattle.cell_model.specs.Store.{Store, entries, no_cells, place_of, content_at, value_at, cells_of, next_row_of, drop_count}
use Rattle.row_key.specs.declared.tables.Table.{Table}
use Rattle.row_key.specs.declared.tables.Table.TheVariants.{Ids, Points}
use Rattle.cell_model.specs.Ranges.{SameMetric}
use Rattle.cell_model.specs.Machine.{after, reply_of, kind_qual}
use Rattle.cell_model.specs.History.{History, len, store_after}
use Rattle.cell_model.specs.History.History.{Base, Then}
use Rattle.cell_model.specs.IdRows.{id_number, name_row, id_row}
use Rattle.cell_model.specs.Lawful.{IsLawful, HasOpened, MayStep}
use Rattle.cell_laws.specs.Examples.{did, told, name_a, raced, RaceIsLost, series_row, at_start, at_second, VersionsEnd, RangesEnd, two_names, named, NextRowEnds}
use Rattle.cell_laws.proofs.EmptyStore.{empty_base}
use Rattle.cell_laws.proofs.Sheets.{IsFresh, entries-empty, content_in, value_in, counter_in, cells_in, next_in, count_in, after_in, reply_in, sheet, sheet_same, value_same, counter_same, count_same, after_same, reply_same}

pub is_name : IsName name_a
is_name = record { some = omega arith; most = omega arith; alphabet = refl }

-- the reply to a step behind a history, computed
legal : (h : History) (step : Step) (reply : Reply) → IsFresh h → reply ≡ reply_in (store_after h).widths (sheet h) (len h + 1) step → reply ≡ reply_of (store_after h) (len h + 1) step
legal h step reply fresh is = is ∙ sym (reply_same (store_after h) (len h + 1) step ∙ ap (λ es. reply_in (store_after h).widths es (len h + 1) step) (sheet_same h fresh))

pub value_after : (h : History) (row : Row) (qual : List ℕ) → IsFresh h → value_at (store_after h) row qual ≡ value_in (sheet h) row qual
value_after h row qual fresh = value_same (store_after h) row qual ∙ ap (λ es. value_in es row qual) (sheet_same h fresh)

-- a history with one entry more is lawful where the entry is allowed and its reply is the computed one
pub more : (h : History) (e : Entry) → IsLawful h → IsFresh h → HasOpened h e.caller e.step → MayStep h e.caller e.step → e.reply ≡ reply_in (store_after h).widths (sheet h) (len h + 1) e.step → IsLawful (Then h e)
more h e l fresh opened may is = (l, record { opened = opened; may = may }, legal h e.step e.reply fresh is)

abbrev h1 : History
h1 = Then (Base (no_cells three)) (did 1 Open (Opened 1))

abbrev h2 : History
h2 = Then h1 (did 2 Open (Opened 2))

abbrev h3 : History
h3 = Then h2 (did 1 (Read (name_row name_a)) (Shown []))

abbrev h4 : History
h4 = Then h3 (did 1 (Bump Metric) (BumpReply (Given 1)))

abbrev h5 : History
h5 = Then h4 (did 1 (Claim (id_row three Metric 1) (kind_qual Metric) name_a) (ClaimReply Done))

abbrev h6 : History
h6 = Then h5 (did 2 (Read (name_row name_a)) (Shown []))

abbrev h7 : History
h7 = Then h6 (did 2 (Bump Metric) (BumpReply (Given 2)))

abbrev h8 : History
h8 = Then h7 (did 2 (Claim (id_row three Metric 2) (kind_qual Metric) name_a) (ClaimReply Done))

abbrev h9 : History
h9 = Then h8 (did 2 (Claim (name_row name_a) (kind_qual Metric) (kind_bytes three Metric 2)) (ClaimReply Done))

abbrev h10 : History
h10 = Then h9 (did 1 (Claim (name_row name_a) (kind_qual Metric) (kind_bytes three Metric 1)) (ClaimReply (Held (kind_bytes three Metric 2))))

l1 : IsLawful h1
l1 = more (Base (no_cells three)) (did 1 Open (Opened 1)) (empty_base three) refl tt refl refl

l2 : IsLawful h2
l2 = more h1 (did 2 Open (Opened 2)) l1 refl tt refl refl

l3 : IsLawful h3
l3 = more h2 (did 1 (Read (name_row name_a)) (Shown [])) l2 refl (1, refl) tt refl

l4 : IsLawful h4
l4 = more h3 (did 1 (Bump Metric) (BumpReply (Given 1))) l3 refl (1, refl) tt refl

l5 : IsLawful h5
l5 = more h4 (did 1 (Claim (id_row three Metric 1) (kind_qual Metric) name_a) (ClaimReply Done)) l4 refl (1, refl) (record { kind = Metric; number = 1; is_kind = refl; is_id = refl; is_name = is_name; bumped = (4, refl) }) refl

l6 : IsLawful h6
l6 = more h5 (did 2 (Read (name_row name_a)) (Shown [])) l5 refl (2, refl) tt refl

l7 : IsLawful h7
l7 = more h6 (did 2 (Bump Metric) (BumpReply (Given 2))) l6 refl (2, refl) tt refl

l8 : IsLawful h8
l8 = more h7 (did 2 (Claim (id_row three Metric 2) (kind_qual Metric) name_a) (ClaimReply Done)) l7 refl (2, refl) (record { kind = Metric; number = 2; is_kind = refl; is_id = refl; is_name = is_name; bumped = (7, refl) }) refl

l9 : IsLawful h9
l9 = more h8 (did 2 (Claim (name_row name_a) (kind_qual Metric) (kind_bytes three Metric 2)) (ClaimReply Done)) l8 refl (2, refl) (record { who = 2; reversed = (8, refl) }) refl

l10 : IsLawful h10
l10 = more h9 (did 1 (Claim (name_row name_a) (kind_qual Metric) (kind_bytes three Metric 1)) (ClaimReply (Held (kind_bytes three Metric 2)))) l9 refl (1, refl) (record { who = 1; reversed = (5, refl) }) refl

pub race_is_lost : RaceIsLost
race_is_lost = record {
  lawful = l10;
  id = ap (option_and_then id_number) (value_after raced (name_row name_a) (kind_qual Metric) refl);
  name = value_after raced (id_row three Metric 2) (kind_qual Metric) refl;
  wasted = value_after raced (id_row three Metric 1) (kind_qual Metric) refl;
  counter = counter_same (store_after raced) Metric ∙ ap (λ es. counter_in es Metric) (sheet_same raced refl);
}

pub cells_after : (h : History) (row : Row) → IsFresh h → cells_of (store_after h) row ≡ cells_in (sheet h) row
cells_after h row fresh = ap (λ es. cells_in es row) (sheet_same h fresh)

-- ---- the last version

content_after : (s : Store) (place : ℕ) (step : Step) (row : Row) (qual : List ℕ) → content_at (after s place step) row qual ≡ content_in (after_in s.widths (entries s) place step) row qual
content_after s place step row qual = get-entries (after s place step).cells (place_of row qual) ∙ ap (λ es. content_in es row qual) (after_same s place step)

count_after : (place : ℕ) (step : Step) (row : Row) (list : List (List ℕ × ℕ)) → drop_count (after (no_cells three) place step) row list ≡ count_in (after_in three [] place step) row list
count_after place step row list =
    count_same (after (no_cells three) place step) row list ∙ ap (λ es. count_in es row list) (after_same (no_cells three) place step) ∙ ap (λ es. count_in (after_in three es place step) row list) entries-empty

content_first : (place : ℕ) (step : Step) (row : Row) (qual : List ℕ) → content_at (after (no_cells three) place step) row qual ≡ content_in (after_in three [] place step) row qual
content_first place step row qual = content_after (no_cells three) place step row qual ∙ ap (λ es. content_in (after_in three es place step) row qual) entries-empty

pub versions_end : VersionsEnd
versions_end = record {
  greatest = content_first (2 ^ 64 - 1) (PutMerged series_row at_start (42 ∷ [])) series_row at_start;
  again = content_first (2 ^ 64) (PutMerged series_row at_start (42 ∷ [])) series_row at_start;
  below = count_after (2 ^ 64 - 1) (PutMerged series_row at_start (42 ∷ [])) series_row ((at_start, 18446744073709551614) ∷ []);
  taken = count_after (2 ^ 64 - 1) (PutMerged series_row at_start (42 ∷ [])) series_row ((at_start, 18446744073709551615) ∷ []);
  other = count_after (2 ^ 64 - 1) (PutMerged series_row at_start (42 ∷ [])) series_row ((at_second, 18446744073709551615) ∷ []);
}

-- ---- the edges of ranges

none_of : {A B C D : Type 0} → (A → ⊥) → (B → ⊥) → (C → ⊥) → (D → ⊥) → A ⊎ (B ⊎ (C ⊎ D)) → ⊥
none_of a b c d (inl x) = a x
none_of a b c d (inr (inl x)) = b x
none_of a b c d (inr (inr (inl x))) = c x
none_of a b c d (inr (inr (inr x))) = d x

no : true ≡ false → ⊥
no e = cc

take_front : (xs ys : List ℕ) → length xs ≡ 3 → take 3 (xs ++ ys) ≡ xs
take_front (a ∷ b ∷ c ∷ []) ys l = refl
take_front [] ys l = absurd (omega (arith, l))
take_front (a ∷ []) ys l = absurd (omega (arith, l))
take_front (a ∷ b ∷ []) ys l = absurd (omega (arith, l))
take_front (a ∷ b ∷ c ∷ d ∷ xs) ys l = absurd (omega (arith, l))

apart : SameMetric three (0 ∷ 0 ∷ 1 ∷ []) (0 ∷ 0 ∷ 2 ∷ []) → ⊥
apart m =
    let one : take 3 (m.metric ++ m.from_rest) ≡ m.metric = take_front m.metric m.from_rest m.whole in
    let two : take 3 (m.metric ++ m.to_rest) ≡ m.metric = take_front m.metric m.to_rest m.whole in
    let same : 0 ∷ 0 ∷ 1 ∷ [] ≡ 0 ∷ 0 ∷ 2 ∷ [] = ap (take 3) m.from_is ∙ one ∙ sym two ∙ ap (take 3) (sym m.to_is) in
    let last : 1 ≡ 2 = ap (λ (xs : List ℕ). slice_index_or xs 2 0) same in absurd (omega (arith, last))

pub ranges_end : RangesEnd
ranges_end = record {
  low = inl (record { from_on = refl; from_at = refl; to_on = refl; to_at = refl });
  capitals = inr (inl (record { from_on = refl; from_at = refl; to_on = refl; to_at = refl }));
  early = inr (inr (inl (record { from_on = refl; from_at = refl; to_on = refl; to_at = refl })));
  late = inr (inr (inr (record { from_on = refl; from_at = refl; to_on = refl; to_at = refl })));
  metric = record { metric = 0 ∷ 0 ∷ 1 ∷ []; from_rest = []; to_rest = 255 ∷ 255 ∷ []; whole = refl; from_is = refl; to_is = refl };
  no_counters = none_of (λ w. no w.from_on) (λ w. no w.from_on) (λ w. no w.from_on) (λ w. no w.from_on);
  no_capital = none_of (λ w. no w.to_at) (λ w. no w.from_on) (λ w. no w.from_on) (λ w. no w.from_on);
  no_small = none_of (λ w. no w.to_at) (λ w. no w.to_at) (λ w. no w.from_on) (λ w. no w.from_on);
  no_late = none_of (λ w. no w.to_at) (λ w. no w.to_at) (λ w. no w.to_at) (λ w. no w.from_on);
  no_end = none_of (λ w. no w.to_at) (λ w. no w.to_at) (λ w. no w.to_at) (λ w. no w.to_at);
  no_other_metric = apart;
  no_names = λ from to x. x;
}

next_after : (table : Table) (from to : List ℕ) → next_row_of named table from to ≡ next_in (sheet (told (Base (no_cells three)) two_names)) table from to
next_after table from to = ap (λ es. next_in es table from to) (sheet_same (told (Base (no_cells three)) two_names) refl)

pub next_row_ends : NextRowEnds
next_row_ends = record {
  first = next_after Ids (97 ∷ []) (98 ∷ []);
  behind = next_after Ids (97 ∷ 0 ∷ []) (98 ∷ []);
  last = next_after Ids (97 ∷ 0 ∷ []) (98 ∷ 0 ∷ []);
  empty_range = next_after Ids (97 ∷ []) (97 ∷ []);
  turned = next_after Ids (98 ∷ []) (97 ∷ []);
  other_table = next_after Points (97 ∷ []) (99 ∷ []);
}

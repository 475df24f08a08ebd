-- Going through the rows of a metric, turn by turn.
use Rattle.std.proofs.Common.{◌≡◌, ◌≢◌, inl, inr, ℕ, ◌≤◌, List, [], ◌∷◌, ◌++◌, refl, sym, ap, subst, ◌∙◌, arith, length-append, append_assoc}
use Rattle.std.specs.Prelude.{Contains, Bool, true, false, Option, None, Some, Ok, Err}
use Rattle.std.proofs.lemmas.List.Elements.{Contains-append_left, Contains-append_right, Contains-append_cases}
use Rattle.std.proofs.lemmas.List.{append-nil}
use Rattle.tsd_base.specs.declared.kinds.Kind.{Kind}
use Rattle.std.specs.declared.cmp.Ordering.TheVariants.{Less}
use Rattle.row_key.specs.declared.widths.Widths.{Widths}
use Rattle.row_key.specs.declared.keys.RowKey.{RowKey}
use Rattle.row_key.specs.Key.{IsKey, key_bytes, most_ids}
use Rattle.cell_model.specs.declared.row.Row.{Row}
use Rattle.qual_codec.specs.declared.cells.Cell.{Cell}
use Rattle.cell_model.specs.declared.row.Found.{Found}
use Rattle.cell_model.specs.declared.events.Placed.{Placed}
use Rattle.cell_model.specs.declared.events.Reply.TheVariants.{Shown, Next}
use Rattle.cell_model.specs.declared.answers.RowsFault.{RowsFault}
use Rattle.cell_model.specs.declared.answers.RowsFault.TheVariants as rows
use Rattle.cell_model.specs.Layout.{base_time}
use Rattle.cell_model.specs.Store.{Store}
use Rattle.list_lemmas.specs.BytesOrder.{bytes_cmp}
use Rattle.cell_model.specs.Seen.{Seen, IsPossible}
use Rattle.cell_model.specs.Deeds.{Made}
use Rattle.row_scan.specs.Scans.{Left, IsNext, IsStart, IsOther, AreOther, IsWanted, TurnMade, MadeSo, Skips, left_at, behind}
use Rattle.metric_scan.specs.Parts.{IsQueryStep, AreQuerySteps}
use Rattle.metric_scan.specs.RowNames.{IdOf, Names, KnowsPair, AllNamed, HasName, AreReads, IdReads, NamesRead, NamesCut, ids_of}
use Rattle.metric_scan.specs.Walks.{Picks, KeyOf, Counted, RowIsNamed, GoesOn, ShowsBelow, RowRange, Walked, WalkedAll, WalkCut, picked_by}
use Rattle.metric_scan.specs.RowTurns.{TurnedToEnd, TurnedPast, TurnedTo, TurnCut}
use Rattle.metric_scan.proofs.Lower as lower
use Rattle.metric_scan.proofs.NameReads.{pairs_joined, named_kept}
use Rattle.metric_scan.proofs.ScanSteps.{NextFound, next_found, only_from, only_behind, below_next, below_rest}
use Rattle.metric_scan.proofs.FoundKeys.{key_of_row, row_knows}
use Rattle.metric_scan.proofs.Passing.{below_none, below_more, below_skipped, found_before}

-- ---- entries

pub reads_steps : (list : List Placed) → AreReads list → AreQuerySteps list
reads_steps list r p c = let w = r p c in subst IsQueryStep (sym w.2) tt

next_step : (left : Left) (o : Option Found) (p : Placed) → IsNext left o p → IsQueryStep p.entry.step
next_step left o p n = subst IsQueryStep (sym n.0) tt

pub reads_other : (list : List Placed) → AreReads list → AreOther list
reads_other list r p c = let w = r p c in subst IsOther (sym w.2) tt

pub steps_joined : (xs ys : List Placed) → AreQuerySteps xs → AreQuerySteps ys → AreQuerySteps (xs ++ ys)
steps_joined xs ys a b p c = elim (Contains-append_cases xs ys p c) [ inl l ↦ a p l | inr r ↦ b p r ]

one_step : (left : Left) (o : Option Found) (p : Placed) → IsNext left o p → AreQuerySteps (p ∷ [])
one_step left o p n q c = elim (lower.split p q [] c) [ inl same ↦ subst (λ (x : Placed). IsQueryStep x.entry.step) same (next_step left o p n) | inr none ↦ absurd (lower.not_in q none) ]

shown_not_next : (cells : List Cell) (o : Option Found) → Shown cells ≡ Next o → ⊥
shown_not_next cells o e = cc

same_next : (f g : Found) → Next (Some f) ≡ Next (Some g) → f ≡ g
same_next f g e = cc

none_not_next : (g : Found) → Next None ≡ Next (Some g) → ⊥
none_not_next g e = cc

none_some : {X : Type 0} (x : X) → ◌≡◌ {A = Option X} None (Some x) → ⊥
none_some x e = cc

pub reads_show_none : (list : List Placed) → AreReads list → (p : Placed) (f : Found) → Contains list p → p.entry.reply ≡ Next (Some f) → ⊥
reads_show_none list r p f c e = let w = r p c in shown_not_next w.1 (Some f) (sym w.3 ∙ e)

-- ---- counting them

-- the next row was found, and then names were read
pub counted_more : (spare : ℕ) (widths : Widths) (id start end : ℕ) (own list : List Placed) (founds : List Found) (ids others : List IdOf) (left : Left) (p : Placed) (f : Found) (key : RowKey) (names : Names) → Counted 0 widths id start end own founds ids → IsNext left (Some f) p → KeyOf widths id start end f key
    → ((g : Found) → Contains founds g → bytes_cmp g.row.bytes f.row.bytes ≡ Less) → ((i : IdOf) → Contains ids i → HasName names i) → IdReads spare names (ids_of key.pairs.items) others list
    → Counted spare widths id start end ((own ++ p ∷ []) ++ list) (founds ++ f ∷ []) (ids ++ others)
counted_more spare widths id start end own list founds ids others left p f key names c next of passed had reads = record {
  steps = steps_joined (own ++ p ∷ []) list (steps_joined own (p ∷ []) c.steps (one_step left (Some f) p next)) (reads_steps list reads.reads);
  shows = λ q g i e. elim (Contains-append_cases (own ++ p ∷ []) list q i) [
    | inl l ↦ elim (Contains-append_cases own (p ∷ []) q l) [
      | inl old ↦ Contains-append_left founds (f ∷ []) g (c.shows q g old e)
      | inr new ↦ elim (lower.split p q [] new) [
        | inl same ↦ (let is = same_next f g (sym next.1 ∙ ap (λ (x : Placed). x.entry.reply) same ∙ e) in subst (Contains (founds ++ f ∷ [])) is last)
        | inr none ↦ absurd (lower.not_in q none)
      ]
    ]
    | inr r ↦ absurd (reads_show_none list reads.reads q g r e)
  ];
  by = λ g i. elim (Contains-append_cases founds (f ∷ []) g i) [
    | inl old ↦ (let w = c.by g old in (w.0, w.1, Contains-append_left (own ++ p ∷ []) list w.0 (Contains-append_left own (p ∷ []) w.0 w.2), w.3))
    | inr new ↦ elim (lower.split f g [] new) [
      | inl same ↦ (p, left, Contains-append_left (own ++ p ∷ []) list p (Contains-append_right own (p ∷ []) p (lower.here p [])), subst (λ (x : Found). IsNext left (Some x) p) same next)
      | inr none ↦ absurd (lower.not_in g none)
    ]
  ];
  keys = λ g i. elim (Contains-append_cases founds (f ∷ []) g i) [
    | inl old ↦ c.keys g old
    | inr new ↦ elim (lower.split f g [] new) [ inl same ↦ (key, subst (λ (x : Found). KeyOf widths id start end x key) same of) | inr none ↦ absurd (lower.not_in g none) ]
  ];
  rising = lower.pairs_push (λ (g h : Found). bytes_cmp g.row.bytes h.row.bytes ≡ Less) founds f c.rising passed;
  count =
      let a = c.count in
      let b = reads.count in
      let l = length-append (own ++ p ∷ []) list in
      let m = length-append own (p ∷ []) in
      let n = length-append founds (f ∷ []) in
      let o = length-append ids others in
      omega (arith, a, b, l, m, n, o);
  once = pairs_joined (λ (i j : IdOf). i ≢ j) ids others c.once reads.once (λ i j x y same. let h = had i x in none_some h.0 (sym (ap (λ (z : IdOf). names z.0 z.1) same ∙ reads.fresh j y) ∙ h.1));
  from = λ i x. elim (Contains-append_cases ids others i x) [
    | inl old ↦ (let w = c.from i old in (w.0, Contains-append_left founds (f ∷ []) w.0 w.1, w.2))
    | inr new ↦ (f, last, (key, of, reads.among i new))
  ];
}
  where
    last : Contains (founds ++ f ∷ []) f
    last = Contains-append_right founds (f ∷ []) f (lower.here f [])

pub counted_none : (widths : Widths) (id start end : ℕ) → Counted 0 widths id start end [] [] []
counted_none widths id start end = record {
  steps = λ p c. absurd (lower.not_in p c);
  shows = λ p f c e. absurd (lower.not_in p c);
  by = λ f c. absurd (lower.not_in f c);
  keys = λ f c. absurd (lower.not_in f c);
  rising = λ i j d lt within. absurd (omega (arith, within));
  count = omega arith;
  once = λ i j d lt within. absurd (omega (arith, within));
  from = λ i c. absurd (lower.not_in i c);
}

pub counted_wider : (widths : Widths) (id start end : ℕ) (own : List Placed) (founds : List Found) (ids : List IdOf) → Counted 0 widths id start end own founds ids → Counted 1 widths id start end own founds ids
counted_wider widths id start end own founds ids c =
    record { steps = c.steps; shows = c.shows; by = c.by; keys = c.keys; rising = c.rising; count = let n = c.count in omega (arith, n); once = c.once; from = c.from }

-- no next row was found
counted_end : (widths : Widths) (id start end : ℕ) (own list : List Placed) (founds : List Found) (ids : List IdOf) (left : Left) (p : Placed) → Counted 0 widths id start end own founds ids → list ≡ p ∷ [] → IsNext left None p → Counted 1 widths id start end (own ++ list) founds ids
counted_end widths id start end own list founds ids left p c is next =
    subst (λ (l : List Placed). Counted 1 widths id start end (own ++ l) founds ids) (sym is) (record {
      steps = steps_joined own (p ∷ []) c.steps (one_step left None p next);
      shows = λ q g i e. elim (Contains-append_cases own (p ∷ []) q i) [
        | inl old ↦ c.shows q g old e
        | inr new ↦ elim (lower.split p q [] new) [ inl same ↦ absurd (none_not_next g (sym next.1 ∙ ap (λ (x : Placed). x.entry.reply) same ∙ e)) | inr none ↦ absurd (lower.not_in q none) ]
      ];
      by = λ g i. let w = c.by g i in (w.0, w.1, Contains-append_left own (p ∷ []) w.0 w.2, w.3);
      keys = c.keys;
      rising = c.rising;
      count = let n = c.count in let l = length-append own (p ∷ []) in omega (arith, n, l);
      once = c.once;
      from = c.from;
    })

-- ---- where it stands

pub walk_begins : (r : RowRange) (picks : Picks) (left : Left) (names : Names) → IsStart r.begun.base.widths r.id (base_time r.start) (base_time r.end) left → ((kind : Kind) (i : ℕ) → names kind i ≡ None) → Walked r [] [] picks left names r.begun
walk_begins r picks left names is none = record {
  begin = left;
  ids = [];
  starts = is;
  made = lower.nothing_made r.begun;
  counted = counted_none r.begun.base.widths r.id r.start r.end;
  had = λ i c. absurd (lower.not_in i c);
  scanning = lower.scan_begins (picked_by picks) left;
  only = is.only;
  passed = λ f c. absurd (lower.not_in f c);
  below = below_none picks left;
  named = λ f c. absurd (lower.not_in f c);
  shown = λ kind i name e. absurd (none_some name (sym (none kind i) ∙ e));
}

-- where the widths that it is started with are those that are seen
pub starts_there : (widths base : Widths) (id first last : ℕ) (left : Left) → widths ≡ base → id ≤ most_ids base.metric → (id ≤ most_ids widths.metric → IsStart widths id first last left) → IsStart base id first last left
starts_there widths base id first last left same small starts = subst (λ (w : Widths). IsStart w id first last left) same (starts (subst (λ (w : Widths). id ≤ most_ids w.metric) (sym same) small))

-- a row's names are kept
named_still : (picks : Picks) (widths : Widths) (id start end : ℕ) (names after : Names) (f : Found) → ((i : IdOf) → HasName names i → HasName after i) → RowIsNamed picks widths id start end names f → RowIsNamed picks widths id start end after f
named_still picks widths id start end names after f keeps n = record { key = n.key; of = n.of; named = λ picked i c. keeps i (n.named picked i c) }

module _ (r : RowRange) (own : List Placed) (founds : List Found) (picks : Picks) (left : Left) (names : Names) (now : Seen) (so : Walked r own founds picks left names now) where
  abbrev W : Widths
  W = r.begun.base.widths

  -- its ids have the widths that are seen
  pub scan_widths : left.widths ≡ W
  scan_widths = so.below.widths_are ∙ so.starts.widths_are

  pub turn_widths : left.widths ≡ now.base.widths
  turn_widths = scan_widths ∙ ap (λ (b : Store). b.widths) (sym so.made.since.extends.base)

  -- the turn failed
  pub no_turn : (next : Seen) (e : RowsFault) → MadeSo now (TurnMade left (Err e)) next → TurnCut r next
  no_turn next e (list, made, none) = (
    own ++ [],
    founds,
    record {
      ids = so.ids;
      made = lower.made_joined r.begun now next own [] so.made (subst (λ (l : List Placed). Made now l next) none made);
      counted = subst (λ (l : List Placed). Counted 1 W r.id r.start r.end l founds so.ids) (sym (append-nil own)) (counted_wider W r.id r.start r.end own founds so.ids so.counted);
    },
  )

  pub given_up : WalkCut r own founds now
  given_up = record { ids = so.ids; made = so.made; counted = counted_wider W r.id r.start r.end own founds so.ids so.counted }

  -- no row was found
  pub walk_ends : (next : Seen) (o : Option Found) → o ≡ None → MadeSo now (TurnMade left (Ok o)) next → TurnedToEnd r own founds picks names next
  walk_ends next o none (list, made, (p, list_is, n)) =
      let next_none : IsNext left None p = subst (λ (x : Option Found). IsNext left x p) none n in
      record {
        at = p;
        all = subst (λ (l : List Placed). WalkedAll r (own ++ l) founds picks names next) list_is (record {
          begin = so.begin;
          ids = so.ids;
          starts = so.starts;
          made = lower.made_joined r.begun now next own list so.made made;
          counted = counted_end W r.id r.start r.end own list founds so.ids left p so.counted list_is next_none;
          whole = lower.turn_ends (picked_by picks) so.begin left own list founds so.scanning (p, list_is, next_none);
          named = so.named;
          shown = named_kept now next names made.since.extends so.shown;
        });
      }

  -- what is known of a row that a turn found
  pub record Turned (next : Seen) (f : Found) : Type 0 where
    pub p : Placed
    pub made : Made now (p ∷ []) next
    pub is_next : IsNext left (Some f) p
    pub possible : IsPossible next

  pub turned : (next : Seen) (o : Option Found) (f : Found) → o ≡ Some f → MadeSo now (TurnMade left (Ok o)) next → IsPossible next → Turned next f
  turned next o f is (list, made, (p, list_is, n)) possible =
      record { p = p; made = subst (λ (l : List Placed). Made now l next) list_is made; is_next = subst (λ (x : Option Found). IsNext left x p) is n; possible = possible }

  module _ (next : Seen) (f : Found) (t : Turned next f) where
    made_next : Made r.begun (own ++ t.p ∷ []) next
    made_next = lower.made_joined r.begun now next own (t.p ∷ []) so.made t.made

    pub row_found : NextFound next W r.id r.start r.end left f
    row_found = next_found now next W r.id r.start r.end left t.p f (ap (λ (b : Store). b.widths) made_next.since.extends.base) t.made t.is_next t.possible so.only

    below : (g : Found) → Contains founds g → bytes_cmp g.row.bytes f.row.bytes ≡ Less
    below g c = below_next g.row.bytes left f.row (so.passed g c) row_found.from_on

    -- no names were read
    no_reads_of : (asked : List IdOf) → IdReads 0 names asked [] []
    no_reads_of asked = record {
      reads = λ p c. absurd (lower.not_in p c);
      count = omega arith;
      once = λ i j d lt within. absurd (omega (arith, within));
      fresh = λ i c. absurd (lower.not_in i c);
      among = λ i c. absurd (lower.not_in i c);
    }

    abbrev both : List Placed
    both = own ++ t.p ∷ []

    -- it goes on behind the row, after these reads of names
    goes : (after : Seen) (names_after : Names) (key : RowKey) (list : List Placed) (ids : List IdOf) → KeyOf W r.id r.start r.end f key → Made next list after → IdReads 0 names (ids_of key.pairs.items) ids list
        → ((k : Kind) (i : ℕ) (name : List ℕ) → names k i ≡ Some name → names_after k i ≡ Some name) → ((i : IdOf) → Contains ids i → HasName names_after i) → AllNamed after names_after
        → RowIsNamed picks W r.id r.start r.end names_after f → Walked r (both ++ list) (founds ++ f ∷ []) picks (behind left f.row) names_after after
    goes after names_after key list ids of made reads kept had shown named = record {
      begin = so.begin;
      ids = so.ids ++ ids;
      starts = so.starts;
      made = lower.made_joined r.begun next after both list made_next made;
      counted = counted_more 0 W r.id r.start r.end own list founds so.ids ids left t.p f key names so.counted t.is_next of below so.had reads;
      had = λ i c. elim (Contains-append_cases so.ids ids i c) [ inl o ↦ (let h = so.had i o in (h.0, kept i.0 i.1 h.0 h.1)) | inr x ↦ had i x ];
      scanning = lower.others_pass (picked_by picks) so.begin (behind left f.row) both list (founds ++ f ∷ []) (lower.turn_goes_on (picked_by picks) so.begin left own (t.p ∷ []) founds f so.scanning (t.p, refl, t.is_next)) (reads_other list reads.reads);
      only = only_behind W r.id r.start r.end left f.row so.only row_found.from_on;
      passed = λ h c. elim (Contains-append_cases founds (f ∷ []) h c) [
        | inl o ↦ below_rest h.row.bytes left f.row (below h o)
        | inr x ↦ elim (lower.split f h [] x) [
          | inl same ↦ subst (λ (y : Found). bytes_cmp y.row.bytes (behind left f.row).from ≡ Less) same (lower.below_behind f.row.bytes)
          | inr none ↦ absurd (lower.not_in h none)
        ]
      ];
      below = below_more picks so.begin left own founds t.p f so.below t.is_next list;
      named = λ h c. elim (Contains-append_cases founds (f ∷ []) h c) [
        | inl o ↦ named_still picks W r.id r.start r.end names names_after h (λ i n. (n.0, kept i.0 i.1 n.0 n.1)) (so.named h o)
        | inr x ↦ elim (lower.split f h [] x) [ inl same ↦ subst (RowIsNamed picks W r.id r.start r.end names_after) same named | inr none ↦ absurd (lower.not_in h none) ]
      ];
      shown = shown;
    }

    never : (b : Bool) → b ≡ true → b ≡ false → ⊥
    never true e n = cc
    never false e n = cc

    -- of the entries the row's own is followed by the others
    one_behind : (list : List Placed) → both ++ list ≡ own ++ t.p ∷ list
    one_behind list = append_assoc own (t.p ∷ []) list

    -- where it goes on further, since no row in between is asked for
    skip_goes : (mine : List Placed) (more : List Found) (at : Left) (names_after : Names) (after : Seen) (from : List ℕ) → Walked r mine more picks at names_after after → Skips (picked_by picks) at from → Walked r mine more picks (left_at at from) names_after after
    skip_goes mine more at names_after after from g skips = record {
      begin = g.begin;
      ids = g.ids;
      starts = g.starts;
      made = g.made;
      counted = g.counted;
      had = g.had;
      scanning = lower.skips_pass (picked_by picks) g.begin at mine more from g.scanning skips;
      only = only_from W r.id r.start r.end at from g.only skips.forward;
      passed = λ f c. lower.below_from_on f.row.bytes at.from from (g.passed f c) skips.forward;
      below = below_skipped picks g.begin at from mine more g.below skips;
      named = g.named;
      shown = g.shown;
    }

    -- the row isn't picked
    pub turned_past : (key : RowKey) (at later : Left) → KeyOf W r.id r.start r.end f key → picks key.pairs.items ≡ false → at ≡ behind left f.row → GoesOn picks at later → TurnedPast r own founds picks later names next
    turned_past key at later of fails at_is (from, skips, later_is) = record {
      at = t.p;
      found = f;
      key = key;
      of = of;
      fails = fails;
      walked = subst (λ (l : Left). Walked r both (founds ++ f ∷ []) picks l names next) (sym later_is)
          (skip_goes both (founds ++ f ∷ []) at names next from
          (subst (λ (l : Left). Walked r both (founds ++ f ∷ []) picks l names next) (sym at_is)
          (subst (λ (l : List Placed). Walked r l (founds ++ f ∷ []) picks (behind left f.row) names next) (append-nil both)
          (goes next names key [] [] of (lower.nothing_made next) (no_reads_of (ids_of key.pairs.items)) (λ k i name e. e) (λ i c. absurd (lower.not_in i c)) (named_kept now next names t.made.since.extends so.shown)
          (record { key = key; of = of; named = λ picked. absurd (never (picks key.pairs.items) picked fails) }))))
          skips);
    }

    -- the entries before it show each row below it
    shows_below : (list : List Placed) → ShowsBelow picks W r.id r.start r.end (both ++ list) own f.row
    shows_below list h n lawful stand row of wanted has less =
        let w = found_before picks so.begin left own founds t.p f so.below t.is_next h n lawful (λ q c. stand q (Contains-append_left both list q c)) row (so.starts.all row of) (subst (λ (w : Widths). IsWanted w (picked_by picks) row) (sym so.starts.widths_are) wanted) has less in
        let by = so.counted.by w.0 w.1 in
        (w.0, record { placed = by.0; among = by.2; reply = by.3.1 }, w.2)

    -- the row is picked, and its names were read
    pub turned_to : (after : Seen) (names_after : Names) (key : RowKey) (pairs : List (ℕ × ℕ)) (at : Left) → KeyOf W r.id r.start r.end f key → picks key.pairs.items ≡ true → pairs ≡ key.pairs.items → at ≡ behind left f.row → NamesRead next names (ids_of pairs) after names_after
        → TurnedTo r own founds picks at names_after key f after
    turned_to after names_after key pairs at of picked same at_is read =
        let n = subst (λ (l : List (ℕ × ℕ)). NamesRead next names (ids_of l) after names_after) same read in
        record {
          at = t.p;
          reads = n.list;
          of = of;
          cells_read = row_found.row.reads;
          picked = picked;
          reply = t.is_next.1;
          are_reads = n.reads.reads;
          above = below;
          passed = subst (λ (l : List Placed). ShowsBelow picks W r.id r.start r.end l own f.row) (one_behind n.list) (shows_below n.list);
          walked = subst (λ (l : List Placed). Walked r l (founds ++ f ∷ []) picks at names_after after) (one_behind n.list)
              (subst (λ (l : Left). Walked r (both ++ n.list) (founds ++ f ∷ []) picks l names_after after) (sym at_is)
              (goes after names_after key n.list n.ids of n.made n.reads n.kept (λ i c. n.all i (n.reads.among i c)) (n.shown (named_kept now next names t.made.since.extends so.shown))
              (record { key = key; of = of; named = λ picked. n.all })));
        }

    -- not all of its names were read
    pub names_cut : (after : Seen) (key : RowKey) (pairs : List (ℕ × ℕ)) → KeyOf W r.id r.start r.end f key → pairs ≡ key.pairs.items → NamesCut next names (ids_of pairs) after → TurnCut r after
    names_cut after key pairs of same cut =
        let n = subst (λ (l : List (ℕ × ℕ)). NamesCut next names (ids_of l) after) same cut in (
          both ++ n.list,
          founds ++ f ∷ [],
          record {
            ids = so.ids ++ n.ids;
            made = lower.made_joined r.begun next after both n.list made_next n.made;
            counted = counted_more 1 W r.id r.start r.end own n.list founds so.ids n.ids left t.p f key names so.counted t.is_next of below so.had n.reads;
          },
        )

    -- ---- the key that was read of it

    at_widths : (at : Left) → at ≡ behind left f.row → at.widths ≡ W
    at_widths at at_is = ap (λ (l : Left). l.widths) at_is ∙ scan_widths

    pub key_there : (at : Left) (bytes : List ℕ) → at ≡ behind left f.row → bytes ≡ f.row.bytes → (key : RowKey) × IsKey at.widths key × (bytes ≡ key_bytes at.widths key)
    key_there at bytes at_is bytes_are =
        let x = row_found.row in
        (x.key, subst (λ (w : Widths). IsKey w x.key) (sym (at_widths at at_is)) x.of.is_key, bytes_are ∙ ap (λ (y : Row). y.bytes) x.of.row_is ∙ ap (λ (w : Widths). key_bytes w x.key) (sym (at_widths at at_is)))

    module _ (at : Left) (bytes : List ℕ) (key : RowKey) (at_is : at ≡ behind left f.row) (bytes_are : bytes ≡ f.row.bytes) (is_key : IsKey at.widths key) (key_is : bytes ≡ key_bytes at.widths key) where
      is_here : IsKey W key
      is_here = subst (λ (w : Widths). IsKey w key) (at_widths at at_is) is_key

      row_here : f.row.bytes ≡ key_bytes W key
      row_here = sym bytes_are ∙ key_is ∙ ap (λ (w : Widths). key_bytes w key) (at_widths at at_is)

      pub key_read : KeyOf W r.id r.start r.end f key
      key_read = key_of_row next W r.id r.start r.end f key row_found.row is_here row_here

      pub ids_known : (pairs : List (ℕ × ℕ)) → pairs ≡ key.pairs.items → (p : ℕ × ℕ) → Contains pairs p → KnowsPair next p
      ids_known pairs same = row_knows next W r.id r.start r.end f key pairs row_found.row is_here row_here same

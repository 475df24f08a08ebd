-- What a history decides that a sub query is answered, and that its part of the entries says so.
use Rattle.std.proofs.Common.{◌≡◌, ℕ, ◌+◌, ◌-◌, ◌*◌, ◌<◌, ◌≤◌, List, [], ◌∷◌, ◌++◌, refl, sym, ap, subst, ◌∙◌, arith}
use Rattle.std.specs.Prelude.{◌↔◌, ℤ, IsTrue, Contains, Option, None, Some, Result, Ok, Err, option_map, option_and_then}
use Rattle.std.proofs.lemmas.List.Elements.{Contains-append_right}
use Rattle.tsd_base.specs.declared.kinds.Kind.{Kind}
use Rattle.row_key.specs.declared.keys.RowKey.{RowKey}
use Rattle.qual_codec.specs.declared.cells.Cell.{Cell}
use Rattle.qual_codec.specs.Merge.{values_at}
use Rattle.cell_model.specs.declared.row.Found.{Found}
use Rattle.cell_model.specs.declared.row.Row.{Row}
use Rattle.cell_model.specs.declared.events.Content.{Content}
use Rattle.cell_model.specs.declared.events.Place.{Place}
use Rattle.cell_model.specs.declared.events.Placed.{Placed}
use Rattle.cell_model.specs.declared.events.Reply.{Reply}
use Rattle.cell_model.specs.declared.events.Reply.TheVariants.{Next, Shown}
use Rattle.cell_model.specs.declared.events.Step.{Step}
use Rattle.cell_model.specs.declared.events.Step.TheVariants.{Open, Read, NextRow, Bump, Claim, PutPoint, AppendPoint, PutMerged, DropCells}
use Rattle.cell_model.specs.Deeds.{before_first}
use Rattle.cell_model.specs.History.{History, first, store_after, entry_at}
use Rattle.cell_model.specs.IdRows.{id_number, id_of, name_of, name_row}
use Rattle.cell_model.specs.Lawful.{IsLawful}
use Rattle.cell_model.specs.Machine.{kind_qual, reply_of}
use Rattle.cell_model.specs.Readings.{Reading, OneValued, Accepted, point_row}
use Rattle.cell_model.specs.Store.{Store, cells_of, value_at, value_among}
use Rattle.json_reply.specs.Replies.{Group}
use Rattle.query_text.specs.declared.queries.Query.{Query}
use Rattle.query_text.specs.declared.queries.Sub.{Sub}
use Rattle.row_scan.specs.RowReadings.{RowReads}
use Rattle.uid_table.specs.IdSteps.{DidLook}
use Rattle.metric_scan.specs.declared.fault.AskFault.{AskFault}
use Rattle.metric_scan.specs.declared.fault.AskFault.TheVariants.{TooManyBuckets, BadFilter, Unknown, Duplicate, Overflow, OutOfMemory, Stopped}
use Rattle.query_run.specs.Asked.{Cause}
use Rattle.query_run.specs.Invisible.{AcceptedFor, IsSettled}
use Rattle.metric_scan.specs.Parts.{NameOf, IsResolved, AllResolved, PartStands, FirstUnknown, HasConflict, FirstConflict}
use Rattle.query_run.specs.AskedQueries.{wanted, names_in, barred, answer_over, IsFew}
use Rattle.query_run.proofs.Lower as lower
use Rattle.query_run.proofs.Lower.{same_reading, OnlyBetween, accepted_grown, grown_between, ids_grown}
use Rattle.query_run.proofs.RowReadings.{by_series, cell_of_dot}

-- ---- what a history decides

-- the answer over exactly the accepted readings that are wanted
pub record IsOver (q : Query) (s : Sub) (g : History) (x : Result (List Group) ℕ) : Type 0 where
  pub free : barred q s ≡ None
  pub resolved : AllResolved g (names_in s)
  pub shown : List Reading
  pub all : (r : Reading) → Contains shown r ↔ AcceptedFor q s g r
  pub is : answer_over q s shown ≡ x

-- the first of the names that isn't resolved
pub record IsFirstUnresolved (names : List NameOf) (n : NameOf) (g : History) : Type 0 where
  pub before : List NameOf
  pub after : List NameOf
  pub cut : names ≡ before ++ n ∷ after
  pub resolved : AllResolved g before
  pub fails : IsResolved g n → ⊥

-- groups, or an overflow, as the answer of a sub query
abbrev pub as_answer : Result (List Group) ℕ → Result (List Group) AskFault
as_answer (Ok groups) = Ok groups
as_answer (Err time) = Err (Overflow time)

-- the answer of a sub query that the history decides; one that isn't settled may always come
pub data Comes (q : Query) (s : Sub) (g : History) (y : Result (List Group) AskFault) : Type 0 where
  over : (x : Result (List Group) ℕ) → IsOver q s g x → y ≡ as_answer x → Comes q s g y
  many : (fault : AskFault) → barred q s ≡ Some fault → ◌≡◌ {A = Result (List Group) AskFault} y (Err fault) → Comes q s g y
  lacks : (n : NameOf) → barred q s ≡ None → IsFirstUnresolved (names_in s) n g → ◌≡◌ {A = Result (List Group) AskFault} y (Err (Unknown n.0 n.1)) → Comes q s g y
  free : (IsSettled y → ⊥) → Comes q s g y

-- ---- what a next row shows

not_shown : {f : Found} {cells : List Cell} → ◌≡◌ {A = Reply} (Next (Some f)) (Shown cells) → ⊥
not_shown e = cc

cells_found : (s : Store) (o : Option (Place × Content)) (f : Found) → ◌≡◌ {A = Reply} (Next (Some f)) (Next (option_map (λ (e : Place × Content). record { row = e.0.row; cells = cells_of s e.0.row }) o)) → f.cells ≡ cells_of s f.row
cells_found s None f e = absurd cc
cells_found s (Some x) f e =
    let is : f ≡ record { row = x.0.row; cells = cells_of s x.0.row } = cc in
    ap (λ (g : Found). g.cells) is ∙ ap (λ (g : Found). cells_of s g.row) (sym is)

found_cells : (s : Store) (place : ℕ) (step : Step) (f : Found) → Next (Some f) ≡ reply_of s place step → f.cells ≡ cells_of s f.row
found_cells s place Open f e = absurd cc
found_cells s place (Read row) f e = absurd (not_shown e)
found_cells s place (NextRow table from to) f e = cells_found s _ f e
found_cells s place (Bump kind) f e = absurd cc
found_cells s place (Claim row qual value) f e = absurd cc
found_cells s place (PutPoint point row qual value) f e = absurd cc
found_cells s place (AppendPoint point row piece) f e = absurd cc
found_cells s place (PutMerged row qual value) f e = absurd cc
found_cells s place (DropCells row which) f e = absurd cc

same_cells : (a b : List Cell) → ◌≡◌ {A = Reply} (Shown a) (Shown b) → a ≡ b
same_cells a b e = cc

none_some : {X : Type 0} (x : X) → ◌≡◌ {A = Option X} None (Some x) → ⊥
none_some x e = cc

-- the entries stand in the history, up to this length
abbrev pub StandIn : History → ℕ → List Placed → Type 0
StandIn h to own = (p : Placed) → Contains own p → (p.place ≤ to) × (entry_at h p.place ≡ Some p.entry)

-- ---- a row that is shown was accepted

module _ (h : History) (to : ℕ) (lawful : IsLawful h) (own : List Placed) (stand : StandIn h to own) where
  -- a cell of a row that was found stood
  cell_stood : (p : Placed) (f : Found) → Contains own p → p.entry.reply ≡ Next (Some f) → f.row ≡ point_row f.row.bytes → (c : Cell) → Contains f.cells c → lower.ShownCell h to f c
  cell_stood p f among reply row c has =
      let at = stand p among in
      let entry = lower.each_entry h p.place p.entry lawful at.1 in
      let s = store_after (first (p.place - 1) h) in
      let cells = found_cells s p.place p.entry.step f (sym reply ∙ entry.reply) in
      let low = at.0 in
      record {
        when = p.place - 1;
        up_to = omega (arith, low);
        stands = ap (λ (r : Row). value_at s r c.qual) (sym row) ∙ lower.cell_at s f.row c (subst (λ (cs : List Cell). Contains cs c) cells has);
      }

  -- so a conflict is of two readings that were accepted
  pub no_conflict_of : (q : Query) (s : Sub) (began : Store) (time : ℕ) (a b : ℤ) → OneValued (AcceptedFor q s (first to h)) → FirstConflict began (store_after (first to h)).widths (name_of (first to h)) (wanted q s) own time a b → ⊥
  no_conflict_of q s began time a b one f = none_some (a, b) (sym (lower.no_conflict (values_at c.offset c.dots) values_same) ∙ c.values)
    where
      c : HasConflict (store_after (first to h)).widths (name_of (first to h)) (wanted q s) f.found time a b
      c = f.conflict

      at_in : Contains own f.at
      at_in = subst (λ (l : List Placed). Contains l f.at) (sym f.cut) (Contains-append_right f.earlier (f.at ∷ f.later) f.at (lower.here f.at f.later))

      row : f.found.row ≡ point_row f.found.row.bytes
      row = c.row_is ∙ ap point_row (sym (ap (λ (r : Row). r.bytes) c.row_is))

      key : c.key ≡ c.reads.reads.dot_reads.key
      key = lower.one_key (store_after (first to h)).widths c.key c.reads.reads.dot_reads.key c.is_key c.reads.reads.dot_reads.is_key (sym (ap (λ (r : Row). r.bytes) c.row_is) ∙ c.reads.reads.dot_reads.row_is)

      with_value : ℤ → Reading
      with_value v = record { metric = c.reading.metric; tags = c.reading.tags; time = time; value = v }

      asked : (v : ℤ) → IsTrue (wanted q s (with_value v))
      asked v = sym (by_series q.start q.end s.metric s.filters c.reading (with_value v) (record { metric = refl; tags = refl; time = c.at_time })) ∙ c.asked

      reads_value : (v : ℤ) → Contains (values_at c.offset c.dots) v → RowReads (store_after (first to h)).widths (name_of (first to h)) f.found (with_value v)
      reads_value v has =
          let d = lower.value_dot c.dots c.offset v has in
          let w = cell_of_dot f.found.cells c.dots d.dot c.are_dots d.among in
          let t = c.reads.reads.dot_reads in
          record {
            cell = w.cell;
            among = w.among;
            reads = record {
              dots = w.dots;
              reads = w.reads;
              dot = d.dot;
              among = w.there;
              dot_reads = record {
                key = t.key;
                is_key = t.is_key;
                row_is = t.row_is;
                metric_is = t.metric_is;
                tags_are = t.tags_are;
                time_is = c.time_is ∙ ap (λ (k : RowKey). k.base * 1000 + c.offset) key ∙ ap (λ n. t.key.base * 1000 + n) (sym d.offset_is);
                value_is = sym d.value_is;
              };
            };
          }

      accepted : (v : ℤ) → Contains (values_at c.offset c.dots) v → AcceptedFor q s (first to h) (with_value v)
      accepted v has = let x = reads_value v has in (lower.shown_accepted h to f.found (with_value v) lawful x (cell_stood f.at f.found at_in f.reply row x.cell x.among), asked v)

      values_same : (v w : ℤ) → Contains (values_at c.offset c.dots) v → Contains (values_at c.offset c.dots) w → v ≡ w
      values_same v w x y = one (with_value v) (with_value w) (accepted v x) (accepted w y) (record { metric = refl; tags = refl; time = refl })

-- ---- entries between which nothing is put and no id is assigned

-- the entries stand in the history, behind one length and up to another
abbrev pub StandBetween : History → ℕ → ℕ → List Placed → Type 0
StandBetween h from to own = (p : Placed) → Contains own p → (from < p.place) × (p.place ≤ to) × (entry_at h p.place ≡ Some p.entry)

module _ (h : History) (from to : ℕ) (lawful : IsLawful h) (le : from ≤ to) (only : OnlyBetween h from to) where
  abbrev began : History
  began = first from h

  only_before : (n : ℕ) → n ≤ to → OnlyBetween h from n
  only_before n most place e low high is = only place e low (omega (arith, high, most)) is

  accepted_at : (n : ℕ) → from ≤ n → n ≤ to → (r : Reading) → Accepted began r ↔ Accepted (first n h) r
  accepted_at n low high = accepted_grown (grown_between h from n low (only_before n high)) (lower.first_lawful h n lawful)

  ids_at : (n : ℕ) → from ≤ n → n ≤ to → (kind : Kind) (name : List ℕ) → id_of (first n h) kind name ≡ id_of began kind name
  ids_at n low high = ids_grown (grown_between h from n low (only_before n high)) (lower.first_lawful h n lawful)

  resolved_began : (names : List NameOf) → AllResolved (first to h) names → AllResolved began names
  resolved_began names all n has = let w = all n has in (w.0, sym (ids_at to le (omega arith) n.0 n.1) ∙ w.1)

  module _ (q : Query) (s : Sub) (own : List Placed) (stand : StandBetween h from to own) (one : OneValued (AcceptedFor q s began)) where
    one_later : OneValued (AcceptedFor q s (first to h))
    one_later a b x y m = one a b ((accepted_at to le (omega arith) a).1 x.0, x.1) ((accepted_at to le (omega arith) b).1 y.0, y.1) m

    before_low : (l : List Placed) → StandBetween h from to l → from ≤ before_first l to
    before_low [] st = le
    before_low (p ∷ l) st = let a = (st p (lower.here p l)).0 in omega (arith, a)

    before_high : (l : List Placed) → StandBetween h from to l → before_first l to ≤ to
    before_high [] st = omega arith
    before_high (p ∷ l) st = let a = (st p (lower.here p l)).1 in omega (arith, a)

    -- what a part shows is what was accepted
    part_over : (shown : List Reading) (x : Result (List Group) ℕ) → barred q s ≡ None → PartStands (wanted q s) (names_in s) (record { own = own; shown = shown }) to h → answer_over q s shown ≡ x → IsOver q s began x
    part_over shown x clear stands is = record {
      free = clear;
      resolved = resolved_began (names_in s) stands.resolved;
      shown = shown;
      all = λ r. (to_accepted r, from_accepted r);
      is = is;
    }
      where
        to_accepted : (r : Reading) → Contains shown r → AcceptedFor q s began r
        to_accepted r has = let a = stands.covers.within r has in ((accepted_at to le (omega arith) r).1 a.0, a.1)

        from_accepted : (r : Reading) → AcceptedFor q s began r → Contains shown r
        from_accepted r a =
            let n = before_first own to in
            let w = stands.covers.each r ((accepted_at n (before_low own stand) (before_high own stand) r).0 a.0, a.1) in
            let value = one r w.0 a (to_accepted w.0 w.1) w.2 in
            subst (Contains shown) (same_reading r w.0 w.2 value) w.1

    -- a name of which a read found no cell isn't resolved
    not_found : (kind : Kind) (name : List ℕ) (d : Placed) → Contains own d → DidLook d kind name None → id_of began kind name ≡ None
    not_found kind name d has look =
        let at = stand d has in
        let entry = lower.each_entry h d.place d.entry lawful at.2 in
        let n = d.place - 1 in
        let t = store_after (first n h) in
        let low = at.0 in
        let high = at.1 in
        let cells : look.cells ≡ cells_of t (name_row name) = same_cells look.cells (cells_of t (name_row name)) (sym look.did.1 ∙ entry.reply ∙ ap (reply_of t d.place) look.did.0) in
        let none : value_at t (name_row name) (kind_qual kind) ≡ None =
        lower.value_among-cells_of t (name_row name) (kind_qual kind) ∙ ap (λ (cs : List Cell). value_among cs (kind_qual kind)) (sym cells) ∙ look.shows in
        sym (ids_at n (omega (arith, low)) (omega (arith, high)) kind name) ∙ ap (option_and_then id_number) none

    first_unresolved : (kind : Kind) (name : List ℕ) → FirstUnknown (names_in s) (kind, name) own (first to h) → IsFirstUnresolved (names_in s) (kind, name) began
    first_unresolved kind name u = record {
      before = u.before;
      after = u.after;
      cut = u.cut;
      resolved = resolved_began u.before u.resolved;
      fails = λ r. none_some r.0 (sym (not_found kind name u.none.0 u.none.1 u.none.2) ∙ r.1);
    }

    stand_in : StandIn h to own
    stand_in p has = let w = stand p has in (w.1, w.2)

    -- so a sub query is answered as the history decides
    pub answered_so : (shown : List Reading) (groups : List Group) → barred q s ≡ None → PartStands (wanted q s) (names_in s) (record { own = own; shown = shown }) to h → answer_over q s shown ≡ Ok groups → Comes q s began (Ok groups)
    answered_so shown groups clear stands is = over (Ok groups) (part_over shown (Ok groups) clear stands is) refl

    pub refused_so : (shown : List Reading) (fault : AskFault) → Cause (wanted q) names_in (barred q) (answer_over q) (IsFew q) s (record { own = own; shown = shown }) to h fault → Comes q s began (Err fault)
    refused_so shown (TooManyBuckets count) c = many (TooManyBuckets count) c.1 refl
    refused_so shown (BadFilter index) c = many (BadFilter index) c.1 refl
    refused_so shown (Unknown kind name) c = lacks (kind, name) c.0 (first_unresolved kind name c.1) refl
    refused_so shown (Duplicate time a b) c = absurd (no_conflict_of h to lawful own stand_in q s (store_after (first (before_first own to) h)) time a b one_later c.2)
    refused_so shown (Overflow time) c = over (Err time) (part_over shown (Err time) c.0 c.1 c.2) refl
    refused_so shown OutOfMemory c = free (λ x. x)
    refused_so shown Stopped c = free (λ x. x)

-- What a caller that waited while others stepped still knows.
use Rattle.std.proofs.Common.{ℕ, ◌+◌, ◌≤◌, List, sym, ap, subst, ◌∙◌, arith}
use Rattle.row_key.specs.declared.tables.Table.{Table}
use Rattle.row_key.specs.declared.tables.Table.TheVariants.{Ids, Names, Points}
use Rattle.tsd_base.specs.Points.{DataPoint}
use Rattle.cell_model.specs.declared.row.Row.{Row}
use Rattle.cell_model.specs.declared.events.Step.{Step}
use Rattle.cell_model.specs.declared.events.Step.TheVariants.{Claim, PutPoint, AppendPoint, PutMerged, DropCells}
use Rattle.cell_model.specs.declared.events.Reply.{Reply}
use Rattle.cell_model.specs.KindWidths.{Widths, greatest, kind_bytes}
use Rattle.cell_model.specs.Machine.{kind_qual}
use Rattle.cell_model.specs.IdRows.{name_row}
use Rattle.cell_model.specs.Store.{Store}
use Rattle.cell_model.specs.Ranges.{InOneRange}
use Rattle.cell_model.specs.Lawful.{ClaimBasis, PointBasis, given}
use Rattle.cell_model.specs.Seen.{KnowsCell, Seen, Saw, Waited, Stepped, Knows}
use Rattle.cell_laws.proofs.CallerLemmas.{own_after}

pub waits_join : (a b c : Seen) → Waited a b → Waited b c → Waited a c
waits_join a b c v w = record {
  base = w.base ∙ v.base;
  caller = w.caller ∙ v.caller;
  absorbed = w.absorbed ∙ v.absorbed;
  length = let m = v.length in let n = w.length in omega (arith, m, n);
  kept = λ place e saw. w.kept place e (v.kept place e saw);
  no_own = λ place e saw own. v.no_own place e (w.no_own place e saw (own_after a b v.caller v.absorbed e.caller own)) own;
  alone = w.alone ∙ v.alone;
  still = λ is. w.still (v.alone ∙ is) ∙ v.still is;
}

-- others' steps and then an own one
pub wait_step : (a b c : Seen) (step : Step) (reply : Reply) → Waited a b → Stepped b step reply c → Stepped a step reply c
wait_step a b c step reply w s = record {
  base = s.base ∙ w.base;
  caller = s.caller ∙ w.caller;
  absorbed = s.absorbed ∙ w.absorbed;
  length = let m = w.length in let n = s.length in omega (arith, m, n);
  kept = λ place e saw. s.kept place e (w.kept place e saw);
  stepped = subst (λ (n : ℕ). Saw c c.length (record { caller = n; step = step; reply = reply })) w.caller s.stepped;
  no_own = λ place e saw own other. w.no_own place e (s.no_own place e saw (own_after a b w.caller w.absorbed e.caller own) other) own;
  alone = s.alone ∙ w.alone;
  next = λ is. s.next (w.alone ∙ is) ∙ ap (λ (n : ℕ). n + 1) (w.still is);
}

cell_kept : (s t : Seen) (row : Row) (qual value : List ℕ) → Waited s t → KnowsCell s row qual value → KnowsCell t row qual value
cell_kept s t row qual value w k = (k.0, k.1, w.kept k.0 k.1 k.2, k.3)

basis_waits : (a b : Seen) (table : Table) (row qual value : List ℕ) → Waited a b → ClaimBasis a.base.widths (λ e. (place : ℕ) × Saw a place e) a.caller table row qual value → ClaimBasis b.base.widths (λ e. (place : ℕ) × Saw b place e) b.caller table row qual value
basis_waits a b Names row qual value w k = record {
  kind = k.kind;
  number = k.number;
  is_kind = k.is_kind;
  is_id = k.is_id ∙ ap (λ (s : Store). kind_bytes s.widths k.kind k.number) (sym w.base);
  is_name = k.is_name;
  bumped = (k.bumped.0, subst (λ (n : ℕ). Saw b k.bumped.0 (given n k.kind k.number)) (sym w.caller) (w.kept k.bumped.0 _ k.bumped.1));
}
basis_waits a b Ids row qual value w k = record { who = k.who; reversed = (k.reversed.0, w.kept k.reversed.0 _ k.reversed.1) }
basis_waits a b Points row qual value w k = k

-- a step that was known to be allowed still is
pub claim_waits : (a b : Seen) (row : Row) (qual value : List ℕ) → Waited a b → Knows a (Claim row qual value) → Knows b (Claim row qual value)
claim_waits a b row qual value w k = basis_waits a b row.table row.bytes qual value w k

pub put_waits : (a b : Seen) (point : DataPoint) (row : Row) (qual value : List ℕ) → Waited a b → Knows a (PutPoint point row qual value) → Knows b (PutPoint point row qual value)
put_waits a b point row qual value w k = subst May (ap (λ (s : Store). s.widths) (sym w.base)) (record {
  is_point = k.is_point;
  in_points = k.in_points;
  ids = k.ids;
  resolved = λ kind name c. let was = k.resolved kind name c in (cell_kept a b _ _ _ w was.0, was.1);
  layout = k.layout;
})
  where
    May : Widths → Type 0
    May u = PointBasis u (λ kind name id. KnowsCell b (name_row name) (kind_qual kind) (kind_bytes u kind id) × (id ≤ greatest u kind)) point row qual value

pub append_waits : (a b : Seen) (point : DataPoint) (row : Row) (piece : List ℕ) → Waited a b → Knows a (AppendPoint point row piece) → Knows b (AppendPoint point row piece)
append_waits a b point row piece w k = record { qual = k.qual; value = k.value; piece_is = k.piece_is; put = put_waits a b point row k.qual k.value w k.put }

pub merge_waits : (a b : Seen) (row : Row) (qual value : List ℕ) → Waited a b → Knows a (PutMerged row qual value) → Knows b (PutMerged row qual value)
merge_waits a b row qual value w k = record {
  in_points = k.in_points;
  dots = k.dots;
  reads = k.reads;
  each = λ d c. let was = k.each d c in (was.0, was.1, was.2, cell_kept a b _ _ _ w was.3, was.4, was.5);
}

pub drop_waits : (a b : Seen) (row : Row) (which : List (List ℕ × ℕ)) → Waited a b → Knows a (DropCells row which) → Knows b (DropCells row which)
drop_waits a b row which w k = record { in_points = k.in_points; each = λ d c. let was = k.each d c in (was.0, was.1, cell_kept a b _ _ _ w was.2, was.3) }

-- and a range that was one region's still is
pub range_waits : (a b : Seen) (table : Table) (from to : List ℕ) → Waited a b → InOneRange a.base.widths table from to → InOneRange b.base.widths table from to
range_waits a b table from to w range = subst (λ (s : Store). InOneRange s.widths table from to) (sym w.base) range

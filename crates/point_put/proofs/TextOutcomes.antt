-- What the put of a text says.
use Rattle.std.proofs.Common.{◌≡◌, ℕ, Bool, ℤ, List, [], Result, Ok, sym, ap, subst, ◌∙◌, arith}
use Rattle.tsd_base.specs.Points.{DataPoint, data_point, point_of}
use Rattle.tsd_base.specs.declared.text_parts.TextParts.{TextParts}
use Rattle.tsd_base.specs.Names.{name_of}
use Rattle.tsd_base.specs.TextParts.{HasTextParts, tags_read}
use Rattle.tsd_base.proofs.TextReads.{ok_same, text_reads, series_reads}
use Rattle.cell_model.specs.declared.answers.Stored.{Stored}
use Rattle.cell_model.specs.Seen.{Seen}
use Rattle.cell_laws.proofs.CallerLemmas.{nothing_made}
use Rattle.uid_table.specs.declared.known_series.KnownSeries.{KnownSeries}
use Rattle.uid_table.specs.declared.placed_point.PlacedPoint.{PlacedPoint}
use Rattle.uid_table.specs.IdSteps.{MadeSo}
use Rattle.uid_table.specs.PlacedPoints.{IsPlaced}
use Rattle.uid_table.specs.KnownSeries.{IsShownSeries}
use Rattle.point_put.specs.declared.fault.PutFault.{PutFault}
use Rattle.point_put.specs.Admissions.{Admission}
use Rattle.point_put.specs.PutPoint.{PutSays}
use Rattle.point_put.specs.StoredTexts.{place_of}
use Rattle.point_put.specs.TextPuts.{IsFewFor, ReadAndPut, point_at}

-- the text of a series that is known reads as its point at the time and with the value of the text
pub known_reads : (text : List ℕ) (line : TextParts) (s : Seen) (k : KnownSeries) → HasTextParts text line → k.metric ≡ line.metric.now → k.tags ≡ line.tags.now → IsShownSeries s k
    → point_of text ≡ Ok (point_at (data_point k.placed.point) line.time line.fine line.value)
known_reads text line s k l m t h =
    text_reads text line k.placed.point.metric k.placed.point.tags l (record { name_is = ap name_of (sym m) ∙ h.reads.name_is; tags_are = ap tags_read (sym t) ∙ h.reads.tags_are })

-- the put of such a text
pub known_put : (c : Admission) (text : List ℕ) (line : TextParts) (old mid new : Seen) (k : KnownSeries) (r : Result Stored PutFault) → new ≡ mid → HasTextParts text line → k.metric ≡ line.metric.now → k.tags ≡ line.tags.now → IsShownSeries old k
    → PutSays c (point_at (data_point k.placed.point) line.time line.fine line.value) old r mid → ReadAndPut c text old r new
known_put c text line old mid new k r same l m t h says = subst (λ s. ReadAndPut c text old r s) (sym same) (_, known_reads text line old k l m t h, says)

-- a series stays known by its texts
pub stays_known : (s t : Seen) (k j : KnownSeries) → j.metric ≡ k.metric → j.tags ≡ k.tags → j.placed.point.metric ≡ k.placed.point.metric → j.placed.point.tags ≡ k.placed.point.tags → IsPlaced t j.placed → IsShownSeries s k → IsShownSeries t j
stays_known s t k j m g name pairs is h = record {
  reads = record {
    name_is = ap name_of m ∙ h.reads.name_is ∙ ap (λ n. Ok n) (sym name);
    tags_are = ap tags_read g ∙ h.reads.tags_are ∙ ap (λ n. Ok n) (sym pairs);
  };
  placed = is;
}

-- a series that is to be known
pub knows : (s : Seen) (text : List ℕ) (line : TextParts) (p : PlacedPoint) (k : KnownSeries) → HasTextParts text line → point_of text ≡ Ok (data_point p.point) → IsPlaced s p → k.metric ≡ line.metric.now → k.tags ≡ line.tags.now → k.placed ≡ p → IsShownSeries s k
knows s text line p k l e is m t same =
    let r = (series_reads text line (data_point p.point) l e).0 in record {
      reads = record {
        name_is = ap name_of m ∙ r.name_is ∙ ap (λ (q : PlacedPoint). Ok q.point.metric) (sym same);
        tags_are = ap tags_read t ∙ r.tags_are ∙ ap (λ (q : PlacedPoint). Ok q.point.tags) (sym same);
      };
      placed = subst (IsPlaced s) (sym same) is;
    }

-- what is said of a placed point, under other names of it and of the value
pub said_as : (c : Admission) (old mid : Seen) (k k' : PlacedPoint) (time : ℕ) (fine : Bool) (value value' : ℤ) (r : Result Stored PutFault) → k' ≡ k → value' ≡ value → PutSays c (point_at (data_point k'.point) time fine value') old r mid
    → PutSays c (point_at (data_point k.point) time fine value) old r mid
said_as c old mid k k' time fine value value' r a b says = subst (λ (x : PlacedPoint × ℤ). PutSays c (point_at (data_point x.0.point) time fine x.1) old r mid) (λ i. (a i, b i)) says

-- the put of a text whose series wasn't known
pub new_put : (c : Admission) (text : List ℕ) (old mid new : Seen) (point : DataPoint) (p : PlacedPoint) (stored : Stored) → new ≡ mid → stored.row ≡ p.row → stored.base ≡ p.base → point_of text ≡ Ok point → PutSays c point old (Ok (place_of p)) mid
    → ReadAndPut c text old (Ok stored) new
new_put c text old mid new point p stored same row base e says =
    let at : place_of p ≡ stored = λ i. record { row = sym row i; base = sym base i } in
    subst (λ (x : Seen × Stored). ReadAndPut c text old (Ok x.1) x.0) (λ i. (sym same i, at i)) (point, e, says)

-- of a text that has no point nothing is made
pub few_unread : (s : Seen) (point : DataPoint) → MadeSo s (IsFewFor point) s
few_unread s point = ([], nothing_made s, omega arith)

-- the point of a text is the one that was put
pub few_read : (text : List ℕ) (old new : Seen) (p point : DataPoint) → point_of text ≡ Ok p → point_of text ≡ Ok point → MadeSo old (IsFewFor p) new → MadeSo old (IsFewFor point) new
few_read text old new p point e f made = subst (λ q. MadeSo old (IsFewFor q) new) (ok_same p point (sym e ∙ f)) made

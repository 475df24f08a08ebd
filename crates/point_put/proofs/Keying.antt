-- The key of a point's row.
use Rattle.std.proofs.Common.{◌≡◌, arith}
use Rattle.std.proofs.lemmas.List.Elements.{All-contains_itself}
use Rattle.tsd_base.specs.declared.kinds.Kind.TheVariants.{Metric}
use Rattle.tsd_base.specs.TagList.{IsTags}
use Rattle.tsd_base.specs.Moments.{IsTime}
use Rattle.tsd_base.specs.Points.{DataPoint}
use Rattle.row_key.specs.declared.keys.RowKey.{RowKey}
use Rattle.cell_model.specs.Layout.{base_time}
use Rattle.cell_model.specs.Seen.{Seen}
use Rattle.cell_model.specs.Deeds.{Extends}
use Rattle.uid_table.specs.Shown.{HasShown}
use Rattle.point_put.specs.ShownIds.{PairsShown, KeyShown}
use Rattle.uid_table.proofs.CallerLemmas.{shown_kept}

pub key_shown : (s t : Seen) (p : DataPoint) (key : RowKey) → Extends s t → HasShown s Metric p.metric key.metric → key.base ≡ base_time p.time → IsTime p.time p.fine → IsTags p.tags → PairsShown t p.tags key.pairs.items → KeyShown t p key
key_shown s t p key e metric base timed tags pairs = record {
  is_point = record { metric = metric.is_name; tags = tags; timed = timed };
  is_key = record {
    metric = (shown_kept s t Metric p.metric key.metric e metric).is_id;
    base = let most = timed.most in omega (arith, base, most);
    hour = omega (arith, base);
    some = let n = pairs.count in let m = tags.some in omega (arith, n, m);
    most = let n = pairs.count in let m = tags.most in omega (arith, n, m);
    ids = λ k d lt. let w = pairs.each_pair _ (All-contains_itself key.pairs.items k d lt) in (w.2.0.is_id, w.2.1.is_id);
    rising = pairs.rising;
  };
  metric = shown_kept s t Metric p.metric key.metric e metric;
  base = base;
  pairs = pairs;
}

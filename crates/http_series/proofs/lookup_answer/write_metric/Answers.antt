use Rattle.std.proofs.Common.{◌≡◌, ◌∙◌, ◌++◌, codes, ap}
use Rattle.json_reply.specs.Texts.{quoted}
use Rattle.http_series.specs.SeriesReplies.{metric_text}
use Rattle.http_series.proofs.PointLists.{three_written}
use Rattle.http_series.proofs.lookup_answer.write_metric.Goals as goal

pub returns : goal.returns
unfolding metric_text
returns c =
    let same : c.bytes.result.now ≡ c.args.metric.now = c.bytes.ensures.bytes in
    three_written c.args.out.now.items c.extend_from_slice.new.self.items c.write_quoted.new.out.items c.extend_from_slice-2.new.self.items (codes ",\"metric\":") (quoted c.args.metric.now) (codes ",\"results\":[") c.in_ok-extend_from_slice.ensures.items
    (c.in_ok-write_quoted.ensures ∙ ap (λ text. c.extend_from_slice.new.self.items ++ quoted text) same) c.in_ok-extend_from_slice-2.ensures.items

use Rattle.std.proofs.Common.{codes, map}
use Rattle.json_reply.specs.Texts.{listed}
use Rattle.http_series.specs.SeriesReplies.{limit_text, line_text, metric_text}
use Rattle.http_series.proofs.PointLists.{four_alone}
use Rattle.http_series.proofs.lookup_answer.lookup_text.Goals as goal

pub returns : goal.returns
returns c =
    four_alone c.new-text.result.items c.write_limit.new.out.items c.write_metric.new.out.items c.write_lines.new.out.items c.extend_from_slice.new.self.items (limit_text c.args.request.now.limit) (metric_text c.args.request.now.sub.metric)
    (listed (map line_text c.args.lines.now)) (codes "],\"type\":\"LOOKUP\"}") c.new-text.ensures.items c.in_ok-write_limit.ensures c.in_ok-write_metric.ensures c.in_ok-write_lines.ensures c.in_ok-extend_from_slice.ensures.items

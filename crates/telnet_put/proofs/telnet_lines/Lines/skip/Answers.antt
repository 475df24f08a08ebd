use Rattle.std.proofs.Common.{◌+◌, ◌∙◌, ap, drop}
use Rattle.telnet_put.specs.Unread.{Unread}
use Rattle.telnet_put.proofs.RequestLemmas.{next_given}
use Rattle.telnet_put.proofs.telnet_lines.Lines.skip.Goals as goal

pub returns : goal.returns
returns c = λ request next shuts. next_given c.args.self.now c.skip.new.self c.args.end request c.args.closing next (c.skip.ensures ∙ ap (λ (u : Unread). drop (c.args.end + 1) u.bytes) c.self.view_is) shuts

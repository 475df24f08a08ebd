use Rattle.std.proofs.Common.{◌≡◌, length, rules, sym, subst}
use Rattle.qual_codec.specs.Items.{IsLength}
use Rattle.qual_codec.specs.Items.IsLength.{one, two, four, eight}
use Rattle.qual_codec.proofs.pack.pack_value.Goals as goal

pub returns-in-Ok : goal.returns-in-Ok
returns-in-Ok c =
    let e : length c.held.result.items ≡ 1 = search rules in
    record { len = subst IsLength (sym e) one; fits = search rules; bytes_are = search rules; least = search rules }

pub returns-in-Ok-try_from : goal.returns-in-Ok-try_from
returns-in-Ok-try_from c =
    let e : length c.held-in-Ok-try_from.result.items ≡ 2 = search rules in
    record { len = subst IsLength (sym e) two; fits = search rules; bytes_are = search rules; least = search rules }

pub returns-in-Ok-try_from-2 : goal.returns-in-Ok-try_from-2
returns-in-Ok-try_from-2 c =
    let e : length c.held-in-Ok-try_from-2.result.items ≡ 4 = search rules in
    record { len = subst IsLength (sym e) four; fits = search rules; bytes_are = search rules; least = search rules }

pub returns-in_default-try_from-2 : goal.returns-in_default-try_from-2
returns-in_default-try_from-2 c =
    let e : length c.held-in_default-try_from-2.result.items ≡ 8 = search rules in
    record { len = subst IsLength (sym e) eight; fits = search rules; bytes_are = search rules; least = search rules }

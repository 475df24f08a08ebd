use Rattle.std.proofs.Common.{refl, arith}
use Rattle.query_requests.proofs.DateLemmas.{there_by, there_from, ymd_by, hms_by, word, byte}
use Rattle.query_requests.proofs.civil_dates.moment_of.Goals as goal

pub returns-in-Ok : goal.returns-in-Ok
returns-in-Ok c =
    let y = word c.args.year c.requires.year_in in
    let m = byte c.args.month (let x = c.requires.month_in in omega (arith, x)) in
    let d = byte c.args.day (let x = c.requires.day_in in omega (arith, x)) in
    let h = byte c.args.hour (let x = c.requires.hour_in in omega (arith, x)) in
    let n = byte c.args.minute c.requires.minute_in in
    let s = byte c.args.second c.requires.second_in in
    let v = c.in-Ok.ensures.value in
    (there_by _ _ _ _ _ _ _ _ _ _ _ _ y m d h n s (c.in-Ok.ensures.succeeds.0 refl), ymd_by _ _ _ _ _ _ c.in-Ok.moment.date y m d v.0, hms_by _ _ _ _ _ _ c.in-Ok.moment.time h n s v.1)

pub returns-in-Err : goal.returns-in-Err
returns-in-Err c =
    let y = word c.args.year c.requires.year_in in
    let m = byte c.args.month (let x = c.requires.month_in in omega (arith, x)) in
    let d = byte c.args.day (let x = c.requires.day_in in omega (arith, x)) in
    let h = byte c.args.hour (let x = c.requires.hour_in in omega (arith, x)) in
    let n = byte c.args.minute c.requires.minute_in in
    let s = byte c.args.second c.requires.second_in in
    λ there. let ok = c.in-Err.ensures.succeeds.1 (there_from _ _ _ _ _ _ _ _ _ _ _ _ y m d h n s there) in cc

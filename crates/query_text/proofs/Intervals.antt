-- What the text of a sub query lets its downsample be.
use Rattle.std.proofs.Common.{◌≡◌, ℕ, zero, suc, ◌+◌, ◌*◌, ◌%◌, ◌≤◌, Bool, true, false, cond, ◌&&◌, ◌||◌, List, Option, Some, None, refl, sym, subst, ◌∙◌, arith}
use Rattle.std.specs.Prelude.{IfOk, IfSome, ◌-◌, Result, Ok, Err, codes, drop, take, nat_eq, nat_le}
use Rattle.std.specs.Char.{is_ascii_digit}
use Rattle.std.specs.List.{prefix_len}
use Rattle.std.specs.Str.Parse.{digits_value}
use Rattle.std.proofs.lemmas.Bool.{and_parts, eqb-true, true≢false}
use Rattle.std.proofs.lemmas.Bool.Decides.{nat_tests}
use Rattle.tsd_base.specs.Alphabet.{is_name}
use Rattle.tsd_base.specs.Digits.{is_number}
use Rattle.tsd_base.specs.Tags.{is_same}
use Rattle.tsd_base.specs.declared.kinds.Aggregator.{Aggregator}
use Rattle.tsd_base.specs.declared.kinds.Down.{Down}
use Rattle.tsd_base.specs.declared.kinds.Fill.{Fill}
use Rattle.tsd_base.specs.declared.kinds.Function.{Function}
use Rattle.query_text.specs.Cuts.{before, behind}
use Rattle.query_text.specs.Downs.{IsInterval, down_by, down_in, down_of, fill_of, function_named, interval_by, interval_of, is_interval}
use Rattle.tsd_base.specs.Units.{unit_millis}
use Rattle.tsd_base.specs.declared.units.TheConstants.{MOST_UNITS}
use Rattle.tsd_base.specs.declared.times.TheConstants.{LAST_TIME}
use Rattle.query_text.specs.FilterTexts.{filters_of}
use Rattle.query_text.specs.Subs.{asks_rate, colon_from, head_of, sub_by_aggregator, sub_by_colon, sub_by_down, sub_by_metric, sub_with, unless_colon, GivesSub}
use Rattle.query_text.specs.declared.queries.Filter.{Filter}
use Rattle.query_text.specs.declared.queries.QueryFault.{QueryFault}
use Rattle.query_text.specs.declared.queries.Sub.{Sub}

-- ---- intervals
cond_some : (b : Bool) (x y : Option ℕ) → IfSome x (λ n. 1 ≤ n) → IfSome y (λ n. 1 ≤ n) → IfSome (cond b x y) (λ n. 1 ≤ n)
cond_some true x y p q = p
cond_some false x y p q = q

unit_some : (name : List ℕ) → IfSome (unit_millis name) (λ n. 1 ≤ n)
unit_some name =
    cond_some (is_same name (codes "ms")) _ _ (omega arith)
    (cond_some (is_same name (codes "s")) _ _ (omega arith)
    (cond_some (is_same name (codes "m")) _ _ (omega arith)
    (cond_some (is_same name (codes "h")) _ _ (omega arith)
    (cond_some (is_same name (codes "d")) _ _ (omega arith)
    (cond_some (is_same name (codes "w")) _ _ (omega arith) (cond_some (is_same name (codes "n")) _ _ (omega arith) (cond_some (is_same name (codes "y")) _ _ (omega arith) tt)))))))

some_times : (n unit : ℕ) → 1 ≤ n → 1 ≤ unit → 1 ≤ n * unit
some_times zero unit n u = absurd (omega (arith, n))
some_times (suc k) unit n u = omega (arith, u)

interval_some : (number : List ℕ) (unit : Option ℕ) → IfSome unit (λ n. 1 ≤ n) → IfSome (interval_by number unit) (λ n. 1 ≤ n)
interval_some number None some = tt
interval_some number (Some unit) some = at (is_number number && is_interval (digits_value 10 number) unit) refl
  where
    at : (b : Bool) → (is_number number && is_interval (digits_value 10 number) unit) ≡ b → IfSome (cond b (Some (digits_value 10 number * unit)) None) (λ n. 1 ≤ n)
    at false e = tt
    at true e =
        let all = and_parts (is_number number) (is_interval (digits_value 10 number) unit) e in
        let n = and_parts (nat_le 1 (digits_value 10 number)) (nat_le (digits_value 10 number) MOST_UNITS && nat_le (digits_value 10 number * unit) LAST_TIME) all.1 in
        let least = n.0 in
        some_times (digits_value 10 number) unit (grind (arith, nat_tests, least)) some

module _ (ms : Bool) where
  -- ---- downsamples
  abbrev pub Fits : Option Down → Type 0
  Fits down = IfSome down (λ d. IsInterval ms d.interval)

  whole : (b : Bool) (interval : ℕ) → ms ≡ b → (b || nat_eq (interval % 1000) 0) ≡ true → ms ≡ false → interval % 1000 ≡ 0
  whole true interval is e seconds = absurd (true≢false (sym is ∙ seconds))
  whole false interval is e seconds = eqb-true (interval % 1000) 0 e

  down_fits : (interval : Option ℕ) (function : Option Function) (fill : Option Fill) → IfSome interval (λ n. 1 ≤ n) → Fits (down_by ms interval function fill)
  down_fits (Some interval) (Some function) (Some fill) some = at (ms || nat_eq (interval % 1000) 0) refl
    where
      at : (b : Bool) → (ms || nat_eq (interval % 1000) 0) ≡ b → Fits (cond b (Some (record { interval = interval; function = function; fill = fill })) None)
      at false e = tt
      at true e = record { some = some; whole = whole ms interval refl e }
  down_fits (Some interval) (Some function) None some = tt
  down_fits (Some interval) None fill some = tt
  down_fits None function fill some = tt

  shape_fits : (interval : Option ℕ) (shape : Option (List ℕ)) → IfSome interval (λ n. 1 ≤ n) → Fits (down_in ms interval shape)
  shape_fits interval None some = tt
  shape_fits interval (Some shape) some = down_fits interval (function_named (before 45 shape)) (fill_of (behind 45 shape)) some

  pub text_fits : (text : List ℕ) → Fits (down_of ms text)
  text_fits text =
      let first = before 45 text in
      let n = prefix_len is_ascii_digit first in
      shape_fits (interval_of first) (behind 45 text) (interval_some (take n first) (unit_millis (drop n first)) (unit_some (drop n first)))

  -- ---- sub queries
  abbrev IfSub : Result Sub QueryFault → Type 0
  IfSub (Ok s) = Fits s.down
  IfSub (Err fault) = Unit {0}

  cond_sub : (b : Bool) (x y : Result Sub QueryFault) → IfSub x → IfSub y → IfSub (cond b x y)
  cond_sub true x y p q = p
  cond_sub false x y p q = q

  with_can : (how : Aggregator) (down : Option Down) (metric : List ℕ) (filters : Result (List Filter) QueryFault) → Fits down → IfSub (sub_with how down metric filters)
  with_can how down metric (Ok filters) fits = fits
  with_can how down metric (Err fault) fits = tt

  metric_can : (text : List ℕ) (how : Aggregator) (down : Option Down) (at : ℕ) → Fits down → IfSub (sub_by_metric text how down at)
  metric_can text how down at fits = cond_sub (is_name (drop at (head_of text))) _ _ (with_can how down (drop at (head_of text)) (filters_of text) fits) tt

  colon_can : (further : Option ℕ) (sub : Result Sub QueryFault) → IfSub sub → IfSub (unless_colon further sub)
  colon_can None sub can = can
  colon_can (Some at) sub can = tt

  down_can : (text : List ℕ) (how : Aggregator) (at : ℕ) (down : Option Down) → Fits down → IfSub (sub_by_down text how at down)
  down_can text how at None fits = tt
  down_can text how at (Some down) fits = cond_sub (asks_rate (drop at text)) _ _ tt (colon_can (colon_from text at) _ (metric_can text how (Some down) at fits))

  by_colon_can : (text : List ℕ) (how : Aggregator) (at : ℕ) (colon : Option ℕ) → IfSub (sub_by_colon ms text how at colon)
  by_colon_can text how at None = metric_can text how None at tt
  by_colon_can text how at (Some colon) = down_can text how (colon + 1) (down_of ms (take (colon - at) (drop at text))) (text_fits (take (colon - at) (drop at text)))

  aggregator_can : (text : List ℕ) (at : ℕ) (how : Option Aggregator) → IfSub (sub_by_aggregator ms text at how)
  aggregator_can text at None = tt
  aggregator_can text at (Some how) = cond_sub (asks_rate (drop at text)) _ _ tt (by_colon_can text how at (colon_from text at))

  -- its interval is some milliseconds, and whole seconds where times are told in seconds
  pub interval_of_sub : (text : List ℕ) (at : ℕ) (how : Aggregator) (result : Result Sub QueryFault) → GivesSub result (sub_by_aggregator ms text at (Some how)) → IfOk result (λ sub. Fits sub.down)
  interval_of_sub text at how (Ok sub) is = subst IfSub is (aggregator_can text at (Some how))
  interval_of_sub text at how (Err fault) is = tt

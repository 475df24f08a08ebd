-- Texts that ask for series, read.
use Rattle.std.proofs.Common.{◌≡◌, ◌∙◌, ℕ, Bool, true, false, List, ◌++◌, codes, refl, ap, Option, Some, None, Result, Ok, Err}
use Rattle.tsd_base.specs.declared.kinds.Down.{Down}
use Rattle.query_text.specs.Subs.{sub_of}
use Rattle.query_text.specs.declared.queries.Sub.{Sub}
use Rattle.query_text.specs.declared.queries.QueryFault.{QueryFault}
use Rattle.series_meta.specs.LookupTexts.{IsSeriesText, has_text_test, has_two_parts}
use Rattle.http_series.specs.SeriesTexts.{by_names, plain, plain_of, series_of}

-- the text asks for these series
pub series_is : (text : List ℕ) (sub : Sub) → IsSeriesText text sub → series_of text ≡ Some sub
unfolding series_of
series_is text sub is = (λ i. plain_of (is.one_part i) (is.reads i)) ∙ ap (plain sub) is.plain ∙ ap (by_names sub) is.by_names

-- it asks for none
pub series_none : (text : List ℕ) → ((sub : Sub) → IsSeriesText text sub → ⊥) → series_of text ≡ None
unfolding series_of
series_none text none = by (has_two_parts text) refl (sub_of true (codes "none:" ++ text)) refl
  where
    by_test : (sub : Sub) (test : Bool) → has_two_parts text ≡ false → sub_of true (codes "none:" ++ text) ≡ Ok sub → sub.down ≡ None → has_text_test sub.filters ≡ test → by_names sub test ≡ None
    by_test sub true one reads is text_test = refl
    by_test sub false one reads is text_test = absurd (none sub (record { reads = reads; plain = is; one_part = one; by_names = text_test }))

    by_down : (sub : Sub) (down : Option Down) → has_two_parts text ≡ false → sub_of true (codes "none:" ++ text) ≡ Ok sub → sub.down ≡ down → plain sub down ≡ None
    by_down sub None one reads is = by_test sub (has_text_test sub.filters) one reads is refl
    by_down sub (Some down) one reads is = refl

    by : (two : Bool) → has_two_parts text ≡ two → (read : Result Sub QueryFault) → sub_of true (codes "none:" ++ text) ≡ read → plain_of two read ≡ None
    by true one read reads = refl
    by false one (Ok sub) reads = by_down sub sub.down one reads refl
    by false one (Err fault) reads = refl

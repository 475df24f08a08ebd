-- Values under the texts of their times, and the order of these texts.
use Rattle.std.proofs.Common.{◌≡◌, ℕ, ◌+◌, ◌<◌, ◌≤◌, false, Bool, List, [], ◌∷◌, length, get_or, drop, refl, sym, ap, subst, ◌∙◌, add-one, drop-cons, arith}
use Rattle.std.specs.Prelude.{ℤ}
use Rattle.std.specs.declared.cmp.Ordering.{Ordering}
use Rattle.std.specs.declared.cmp.Ordering.TheVariants.{Less, Equal, Greater}
use Rattle.std.specs.Ordering.{is_le, match_ordering, ordering_reverse}
use Rattle.std.specs.BTreeMap.{insert_entry}
use Rattle.std.specs.FinMap.{put, empty, entries-insert, from_entries, len-empty, len-entries}
use Rattle.std.specs.FinMap.Entries.{by_order}
use Rattle.std.specs.Cmp.Lexicographic.{nat_list_cmp_total}
use Rattle.std.proofs.lemmas.List.{drop_all}
use Rattle.list_lemmas.specs.BytesOrder.{bytes_cmp}
use Rattle.json_reply.specs.Texts.{keyed, time_text, under_texts, texts_of, Rise}

no_entries : {A : Type 0} (es : List A) → length es ≡ 0 → es ≡ []
no_entries [] none = refl
no_entries (e ∷ es) none = absurd (omega arith)

-- nothing is under a key
pub keyed_none : (ms : Bool) → [] ≡ keyed ms []
keyed_none ms = sym (no_entries (keyed ms []) (sym (len-entries (empty {X = ℤ} {R = bytes_cmp})) ∙ len-empty bytes_cmp ℤ))

put_entry : {K X : Type 0} (R : K → K → Ordering) (k : K) (v : X) (es : List (K × X)) → put R k v es ≡ insert_entry R es k v
put_entry R k v [] = refl
put_entry R k v (e ∷ es) =
    elim (R k e.0) as (λ o. by_order o ((k, v) ∷ e ∷ es) ((e.0, v) ∷ es) (e ∷ put R k v es) ≡ match_ordering o ((k, v) ∷ e ∷ es) ((e.0, v) ∷ es) (e ∷ insert_entry R es k v)) [
      | Less ↦ refl
      | Equal ↦ refl
      | Greater ↦ ap (λ l. e ∷ l) (put_entry R k v es)
    ]

-- one more dot in front
pub keyed_more : (ms : Bool) (old new : List (List ℕ × ℤ)) (text : List ℕ) (value : ℤ) (dot : ℕ × ℤ) (dots : List (ℕ × ℤ)) → new ≡ insert_entry bytes_cmp old text value → old ≡ keyed ms dots → text ≡ time_text ms dot.0 → value ≡ dot.1 → new ≡ keyed ms (dot ∷ dots)
keyed_more ms old new text value dot dots inserted old_is text_is value_is =
    let m = from_entries {R = bytes_cmp} (under_texts ms dots) in
    inserted ∙ (λ i. insert_entry bytes_cmp (old_is i) (text_is i) (value_is i)) ∙ sym (entries-insert nat_list_cmp_total m (time_text ms dot.0) dot.1 ∙ put_entry bytes_cmp (time_text ms dot.0) dot.1 (keyed ms dots))

-- a dot under its text
abbrev pub under_text : Bool → ℕ × ℤ → List ℕ × ℤ
under_text ms dot = (time_text ms dot.0, dot.1)

-- dots whose texts rise are in order already
pub keyed_rising : (ms : Bool) (dots : List (ℕ × ℤ)) → Rise (texts_of ms dots) → keyed ms dots ≡ under_texts ms dots
keyed_rising ms [] rise = sym (keyed_none ms)
keyed_rising ms (dot ∷ []) rise = entries-insert nat_list_cmp_total empty (time_text ms dot.0) dot.1 ∙ ap (λ es. put bytes_cmp (time_text ms dot.0) dot.1 es) (sym (keyed_none ms))
keyed_rising ms (dot ∷ next ∷ dots) rise =
    let others = from_entries {R = bytes_cmp} (under_texts ms (next ∷ dots)) in
    let others_are = keyed_rising ms (next ∷ dots) rise.1 in
    entries-insert nat_list_cmp_total others (time_text ms dot.0) dot.1 ∙ ap (λ es. put bytes_cmp (time_text ms dot.0) dot.1 es) others_are
    ∙ ap (λ o. by_order o (under_text ms dot ∷ under_texts ms (next ∷ dots)) ((time_text ms next.0, dot.1) ∷ under_texts ms dots) (under_text ms next ∷ put bytes_cmp (time_text ms dot.0) dot.1 (under_texts ms dots))) rise.0

greater : (order : Ordering) → false ≡ is_le order → order ≡ Greater
greater Less e = cc
greater Equal e = cc
greater Greater e = refl

-- if the texts to come rise from a last one, all rise
abbrev pub RisesOn : Bool → List (ℕ × ℤ) → List ℕ → List (ℕ × ℤ) → Type 0
RisesOn ms dots last rest = Rise (last ∷ texts_of ms rest) → Rise (texts_of ms dots)

pub rises_first : (ms : Bool) (dots : List (ℕ × ℤ)) → RisesOn ms dots [] dots
rises_first ms [] rise = tt
rises_first ms (dot ∷ dots) rise = rise.1

-- one more text is above the last one
pub rises_more : (ms : Bool) (dots all : List (ℕ × ℤ)) (last text : List ℕ) (i : ℕ) (none : ℕ × ℤ) → i < length all → text ≡ time_text ms (get_or all i none).0 → RisesOn ms dots last (drop i all) → false ≡ is_le (bytes_cmp text last) → RisesOn ms dots text (drop (i + 1) all)
rises_more ms dots all last text i none within text_is so_far above rise =
    let left : texts_of ms (drop i all) ≡ text ∷ texts_of ms (drop (i + 1) all) = ap (texts_of ms) (drop-cons all i none within ∙ ap (λ n. get_or all i none ∷ drop n all) (sym (add-one i))) ∙ ap (λ t. t ∷ texts_of ms (drop (i + 1) all)) (sym text_is) in
    let below : bytes_cmp last text ≡ Less = nat_list_cmp_total.antisymm last text ∙ ap ordering_reverse (greater (bytes_cmp text last) above) in
    so_far (subst (λ (texts : List (List ℕ)). Rise (last ∷ texts)) (sym left) (below, rise))

-- no text is left
pub rises_all : (ms : Bool) (dots all : List (ℕ × ℤ)) (last : List ℕ) (i : ℕ) → length all ≤ i → RisesOn ms dots last (drop i all) → Rise (texts_of ms dots)
rises_all ms dots all last i end so_far = so_far (subst (λ (left : List (ℕ × ℤ)). Rise (last ∷ texts_of ms left)) (sym (drop_all i all end)) tt)

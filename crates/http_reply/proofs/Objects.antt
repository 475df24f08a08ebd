-- Objects of texts have no floats.
use Rattle.std.proofs.Common.{◌≡◌, List, [], ◌∷◌, ℕ, Bool, true, false, ◌||◌, Ordering, Less, Equal, Greater, nat_cmp, refl, ap, ◌∙◌, true≢false, String, string_bytes, string_cmp}
use Rattle.std.specs.Prelude.{Option, None, Some, Result, Ok, Err, IfOk, Vec}
use Rattle.std.specs.Cmp.Lexicographic.{slice_cmp}
use Rattle.std.specs.Ordering.{match_ordering}
use Rattle.std.specs.declared.alloc.Global.{Global}
use Rattle.serde_json.specs.Data.{Data, Members, no_members, member, put, object}
use Rattle.std.specs.BTreeMap.{insert_entry}
use Rattle.serde_json.specs.View.{view, members_view}
use Rattle.serde_json.specs.declared.value.Value.{Value}
use Rattle.serde_json.proofs.Views.{members_view-insert_entry}
use Rattle.serde_json.specs.Written.{has_float, members_have_float, compact_text}
use Rattle.row_key.specs.declared.widths.Widths.{Widths}
use Rattle.http_reply.specs.declared.assign_reply.Element.{Element}
use Rattle.http_reply.specs.declared.assign_reply.Assignment.{Assignment}
use Rattle.http_reply.specs.AssignReplies.{with_id, ids_onto, with_error, errors_onto, with_kind, assign_members, assign_body}

neither : (a b : Bool) → (a || b) ≡ false → (a ≡ false) × (b ≡ false)
neither true b h = absurd (true≢false h)
neither false b h = (refl, h)

both : (a b : Bool) → a ≡ false → b ≡ false → (a || b) ≡ false
both true b bare h = absurd (true≢false bare)
both false b bare h = h

chosen : (o : Ordering) (a b c : Members) → members_have_float a ≡ false → members_have_float b ≡ false → members_have_float c ≡ false → members_have_float (match_ordering o a b c) ≡ false
chosen Less a b c x y z = x
chosen Equal a b c x y z = y
chosen Greater a b c x y z = z

put_no_float : (k : List ℕ) (d : Data) (ms : Members) → has_float d ≡ false → members_have_float ms ≡ false → members_have_float (put k d ms) ≡ false
put_no_float k d no_members bare more = both (has_float d) false bare refl
put_no_float k d (member l e ms) bare more =
    let parts = neither (has_float e) (members_have_float ms) more in
    chosen (slice_cmp nat_cmp k l) (member k d (member l e ms)) (member l d ms) (member l e (put k d ms))
    (both (has_float d) (members_have_float (member l e ms)) bare more) (both (has_float d) (members_have_float ms) bare parts.1)
    (both (has_float e) (members_have_float (put k d ms)) parts.0 (put_no_float k d ms bare parts.1))

id_no_float : (width : ℕ) (text : List ℕ) (answer : Result ℕ (Vec ℕ Global)) (ids : Members) → members_have_float ids ≡ false → members_have_float (with_id width text answer ids) ≡ false
id_no_float width text (Ok id) ids bare = put_no_float _ _ ids refl bare
id_no_float width text (Err error) ids bare = bare

ids_no_float : (width : ℕ) (ids : Members) (elements : List Element) → members_have_float ids ≡ false → members_have_float (ids_onto width ids elements) ≡ false
ids_no_float width ids [] bare = bare
ids_no_float width ids (element ∷ elements) bare = ids_no_float width (with_id width element.text.items element.answer ids) elements (id_no_float width element.text.items element.answer ids bare)

error_no_float : (text : List ℕ) (answer : Result ℕ (Vec ℕ Global)) (errors : Members) → members_have_float errors ≡ false → members_have_float (with_error text answer errors) ≡ false
error_no_float text (Ok id) errors bare = bare
error_no_float text (Err error) errors bare = put_no_float _ _ errors refl bare

errors_no_float : (errors : Members) (elements : List Element) → members_have_float errors ≡ false → members_have_float (errors_onto errors elements) ≡ false
errors_no_float errors [] bare = bare
errors_no_float errors (element ∷ elements) bare = errors_no_float (with_error element.text.items element.answer errors) elements (error_no_float element.text.items element.answer errors bare)

kind_no_float : (width : ℕ) (key errors_key : List ℕ) (elements : Option (Vec Element Global)) (ms : Members) → members_have_float ms ≡ false → members_have_float (with_kind width key errors_key elements ms) ≡ false
kind_no_float width key errors_key None ms bare = bare
kind_no_float width key errors_key (Some elements) ms bare =
    put_no_float errors_key (object (errors_onto no_members elements.items)) _ (errors_no_float no_members elements.items refl)
    (put_no_float key (object (ids_onto width no_members elements.items)) ms (ids_no_float width no_members elements.items refl) bare)

pub no_float : (w : Widths) (answers : Assignment) → has_float (object (assign_members w answers)) ≡ false
no_float w answers = kind_no_float w.tag_value _ _ answers.tagv _ (kind_no_float w.tag_key _ _ answers.tagk _ (kind_no_float w.metric _ _ answers.metric no_members refl))

-- a map's entries with one more
pub inserted : (es now : List (String Global × Value)) (k : String Global) (v : Value) → now ≡ insert_entry string_cmp es k v → members_view now ≡ put (string_bytes k) (view v) (members_view es)
inserted es now k v is = ap members_view is ∙ members_view-insert_entry es k v

-- the text of the whole object
pub told : (w : Widths) (d : Data) (body : List ℕ) (whole : Members) (answers : Assignment) → d ≡ object whole → whole ≡ assign_members w answers → (has_float d ≡ false → body ≡ compact_text d) → body ≡ assign_body w answers
told w d body whole answers d_is members_is says =
    let is = d_is ∙ ap object members_is in
    says (ap has_float is ∙ no_float w answers) ∙ ap compact_text is

-- the same of an answer
pub told_if : {E : Type 0} (w : Widths) (r : Result (Vec ℕ Global) E) (d : Data) (entries : List (String Global × Value)) (answers : Assignment) → d ≡ object (members_view entries) → members_view entries ≡ assign_members w answers
    → IfOk r (λ body. has_float d ≡ false → body.items ≡ compact_text d) → IfOk r (λ body. body.items ≡ assign_body w answers)
told_if w (Ok body) d entries answers d_is entries_is says = told w d body.items (members_view entries) answers d_is entries_is says
told_if w (Err e) d entries answers d_is entries_is says = says

-- What all changes make.
use Rattle.std.proofs.Common.{◌≡◌, List, [], sym, ap, subst, ◌∙◌}
use Rattle.std.specs.Prelude.{Result, Ok, Err, IfOk}
use Rattle.std.specs.Global.{Vec}
use Rattle.cell_model.specs.declared.row.ListLine.{ListLine}
use Rattle.cell_model.specs.KindWidths.{Widths}
use Rattle.cell_model.specs.Store.{Store, entries}
use Rattle.cell_model.specs.Counts.{lines_of}
use Rattle.cell_model.specs.Sound.{IsBase}
use Rattle.cell_listing.specs.ListedLines.{ListingRead, lines_of_cells}
use Rattle.listing_check.specs.Faults.{AreFaults}
use Rattle.listing_check.specs.Laws.{FlawlessIsBase, NoFaultIsSound, store_in}
use Rattle.listing_fix.specs.Fixes.{Fixes, Sifted, ids_mended, in_order, with_counters, with_names, without_unread}
use Rattle.listing_fix.proofs.Mending.{fixed_is_sound, names_widths}
use Rattle.listing_fix.proofs.Unmended.{sound_stays}

module _ {E : Type 0} where
  pub mended_ok : (r : Result (Vec ListLine) E) (listed : ListingRead) (w : Widths) (a b c : List ListLine) → w ≡ listed.widths → a ≡ lines_of (in_order listed)
      → ((s : Store) → s.widths ≡ w → a ≡ lines_of s → b ≡ lines_of (without_unread s))
      → ((s : Store) → s.widths ≡ w → b ≡ lines_of s → c ≡ lines_of (with_names s))
      → IfOk r (λ new. (s : Store) → s.widths ≡ w → c ≡ lines_of s → new.items ≡ lines_of (with_counters s)) → IfOk r (λ new. new.items ≡ lines_of (ids_mended listed))
  mended_ok (Ok new) listed w a b c width first second third fourth =
      fourth (with_names (without_unread (in_order listed))) (names_widths (without_unread (in_order listed)) (entries (without_unread (in_order listed))) ∙ sym width)
      (third (without_unread (in_order listed)) (sym width) (second (in_order listed) (sym width) first))
  mended_ok (Err x) listed w a b c width first second third fourth = fourth

pub fixes_by : (listed : ListingRead) (w : Widths) (cells left : List ListLine) → w ≡ listed.widths → cells ≡ lines_of (ids_mended listed) → Sifted w cells cells left → Fixes listed left
fixes_by listed w cells left width is x =
    subst (λ (v : Widths). Sifted v (lines_of (ids_mended listed)) (lines_of (ids_mended listed)) left) width (subst (λ (ls : List ListLine). Sifted w ls ls left) is x)

pub fixed_sound : FlawlessIsBase → (listed : ListingRead) (w : Widths) (left : List ListLine) → w ≡ listed.widths → Fixes listed left → IsBase (store_in w left)
fixed_sound law listed w left width x =
    let y = fixed_is_sound listed left x in
    subst (λ (v : Widths). IsBase (store_in v left)) (sym width) ((law listed.widths left y.0).0 y.1)

pub fixed_stays : FlawlessIsBase → NoFaultIsSound → (listed : ListingRead) (left : List ListLine) → Fixes listed left → AreFaults listed [] → listed.lines ≡ lines_of_cells left
fixed_stays law none listed left x faults =
    let y = (none listed).0 faults in
    let same : listed ≡ record { widths = listed.widths; lines = lines_of_cells y.cells } = λ t. record { widths = listed.widths; lines = y.lines_are t } in
    y.lines_are ∙ ap lines_of_cells (sym (sound_stays listed.widths y.cells left y.rising ((law listed.widths y.cells y.rising).1 y.base) (subst (λ (r : ListingRead). Fixes r left) same x)))

-- ---- the listing that is made

pub made_fixes : (listed : ListingRead) (w : Widths) (cells left lines : List ListLine) → w ≡ listed.widths → cells ≡ lines_of (ids_mended listed) → Sifted w cells cells left → lines ≡ left → Fixes listed lines
made_fixes listed w cells left lines width is x same = subst (Fixes listed) (sym same) (fixes_by listed w cells left width is x)

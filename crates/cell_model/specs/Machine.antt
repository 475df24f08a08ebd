-- The machine: what each step makes of the store, and what it replies. A cell that a step writes has the step's place modulo 2 ^ 64 as its version.
use Rattle.std.specs.Prelude.{ℕ, ◌+◌, ◌%◌, ◌^◌, List, [], ◌∷◌, Option, None, Some, nat_lt, if◌then◌else◌}
use Rattle.std.specs.Option.{option_map_or}
use Rattle.std.specs.Int.{w64, to_be_bytes, from_be_bytes}
use Rattle.tsd_base.specs.declared.kinds.Kind.{Kind}
use Rattle.tsd_base.specs.declared.kinds.Kind.TheVariants.{Metric, TagKey, TagValue}
use Rattle.row_key.specs.declared.tables.Table.TheVariants.{Ids}
use Rattle.cell_model.specs.declared.row.Row.{Row}
use Rattle.cell_model.specs.declared.events.Step.{Step}
use Rattle.cell_model.specs.declared.events.Step.TheVariants.{Open, Read, NextRow, Bump, Claim, PutPoint, AppendPoint, PutMerged, DropCells}
use Rattle.cell_model.specs.declared.events.Reply.{Reply}
use Rattle.cell_model.specs.declared.events.Reply.TheVariants.{Opened, Shown, Next, BumpReply, ClaimReply, Written, Removed}
use Rattle.cell_model.specs.declared.answers.Bumped.{Bumped}
use Rattle.cell_model.specs.declared.answers.Bumped.TheVariants.{Given, Full}
use Rattle.cell_model.specs.declared.answers.Claimed.{Claimed}
use Rattle.cell_model.specs.declared.answers.Claimed.TheVariants.{Done, Held}
use Rattle.cell_model.specs.Store.{Store, value_at, with_cells, written, appended, cells_of, next_row_of, dropped, drop_count}
pub use Rattle.cell_model.specs.KindWidths.{greatest}

-- the qualifiers `metrics`, `tagk` and `tagv`
abbrev pub kind_qual : Kind → List ℕ
kind_qual Metric = 109 ∷ 101 ∷ 116 ∷ 114 ∷ 105 ∷ 99 ∷ 115 ∷ []
kind_qual TagKey = 116 ∷ 97 ∷ 103 ∷ 107 ∷ []
kind_qual TagValue = 116 ∷ 97 ∷ 103 ∷ 118 ∷ []

-- the row of the counters
abbrev pub counter_row : Row
counter_row = record { table = Ids; bytes = 0 ∷ [] }

-- the greatest id given, 0 where there is no cell
abbrev pub counter_of : Store → Kind → ℕ
counter_of s kind = option_map_or (from_be_bytes w64) (value_at s counter_row (kind_qual kind)) 0

-- the old store where a value is there, else the new one
abbrev pub or_written : Option (List ℕ) → Store → Store → Store
or_written None new old = new
or_written (Some value) new old = old

-- done where no value is there, else held by it
abbrev pub claim_reply : Option (List ℕ) → Claimed
claim_reply None = Done
claim_reply (Some value) = Held value

-- the next id, or full where all were given
abbrev pub bump_reply : Store → Kind → Bumped
bump_reply s kind = if nat_lt (counter_of s kind) (greatest s.widths kind) then Given (counter_of s kind + 1) else Full

-- the store whose cells are those after a step at this place
abbrev pub stepped : Store → ℕ → Step → Store
stepped s place Open = s
stepped s place (Read row) = s
stepped s place (NextRow table from to) = s
stepped s place (Bump kind) =
    if nat_lt (counter_of s kind) (greatest s.widths kind)
    then written s counter_row (kind_qual kind) (to_be_bytes w64 (counter_of s kind + 1)) (place % 2 ^ 64)
    else s
stepped s place (Claim row qual value) = or_written (value_at s row qual) (written s row qual value (place % 2 ^ 64)) s
stepped s place (PutPoint point row qual value) = written s row qual value (place % 2 ^ 64)
stepped s place (AppendPoint point row piece) = appended s row piece (place % 2 ^ 64)
stepped s place (PutMerged row qual value) = written s row qual value (place % 2 ^ 64)
stepped s place (DropCells row which) = dropped s row which

-- the store after a step at this place: no step changes the widths
abbrev pub after : Store → ℕ → Step → Store
after s place step = with_cells s (stepped s place step)

-- the reply to a step at this place, of which only an opening tells the place
abbrev pub reply_of : Store → ℕ → Step → Reply
reply_of s place Open = Opened place
reply_of s place (Read row) = Shown (cells_of s row)
reply_of s place (NextRow table from to) = Next (next_row_of s table from to)
reply_of s place (Bump kind) = BumpReply (bump_reply s kind)
reply_of s place (Claim row qual value) = ClaimReply (claim_reply (value_at s row qual))
reply_of s place (PutPoint point row qual value) = Written
reply_of s place (AppendPoint point row piece) = Written
reply_of s place (PutMerged row qual value) = Written
reply_of s place (DropCells row which) = Removed (drop_count s row which)

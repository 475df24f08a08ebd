-- The texts of faults.
use Rattle.std.specs.Prelude.{◌≡◌, ℕ, ◌+◌, ◌/◌, ◌%◌, nat_lt, List, [], ◌∷◌, ◌++◌, length, take, codes, decimal, if◌then◌else◌}
use Rattle.tsd_base.specs.declared.kinds.Kind.{Kind}
use Rattle.tsd_base.specs.declared.kinds.Kind.TheVariants as kinds
use Rattle.tsd_base.specs.declared.names.NameFault.{NameFault}
use Rattle.tsd_base.specs.declared.names.NameFault.TheVariants as names
use Rattle.tsd_base.specs.declared.values.ValueFault.{ValueFault}
use Rattle.tsd_base.specs.declared.values.ValueFault.TheVariants as values
use Rattle.tsd_base.specs.declared.tags.TagsFault.{TagsFault}
use Rattle.tsd_base.specs.declared.tags.TagsFault.TheVariants as tags
use Rattle.tsd_base.specs.declared.points.PointFault.{PointFault}
use Rattle.tsd_base.specs.declared.points.PointFault.TheVariants as points

-- what was written before stays, and more may stand behind it
abbrev pub Keeps : List ℕ → List ℕ → Type 0
Keeps old new = take (length old) new ≡ old

abbrev pub kind_text : Kind → List ℕ
kind_text kinds.Metric = codes "metric"
kind_text kinds.TagKey = codes "tagk"
kind_text kinds.TagValue = codes "tagv"

-- 0 to 9, a to f
abbrev pub hex_digit : ℕ → ℕ
hex_digit n = if nat_lt n 10 then 48 + n else 87 + n

abbrev pub hex_byte : ℕ → List ℕ
hex_byte b = hex_digit (b / 16) ∷ hex_digit (b % 16) ∷ []

unfoldable pub name_fault_text : Kind → NameFault → List ℕ
name_fault_text kind names.Empty = kind_text kind ++ codes " name is empty"
name_fault_text kind (names.TooLong len) = kind_text kind ++ codes " name has " ++ decimal len ++ codes " bytes (255 at most)"
name_fault_text kind (names.BadByte at byte) = kind_text kind ++ codes " name has byte 0x" ++ hex_byte byte ++ codes " at " ++ decimal at
name_fault_text kind names.OutOfMemory = codes "out of memory"

unfoldable pub value_fault_text : ValueFault → List ℕ
value_fault_text values.Float = codes "floats are not stored"
value_fault_text values.BadValue = codes "bad value"
value_fault_text values.ValueTooLarge = codes "value too large"

unfoldable pub tags_fault_text : TagsFault → List ℕ
tags_fault_text tags.NoTags = codes "no tags"
tags_fault_text (tags.TwoValues key) = codes "two values for tagk " ++ key
tags_fault_text (tags.TooManyTags count) = decimal count ++ codes " tags (8 at most)"
tags_fault_text tags.OutOfMemory = codes "out of memory"

unfoldable pub point_fault_text : PointFault → List ℕ
point_fault_text (points.FewWords found) = codes "not enough words (4 needed, " ++ decimal found ++ codes " found)"
point_fault_text (points.Metric fault) = name_fault_text kinds.Metric fault
point_fault_text points.Time = codes "bad time"
point_fault_text (points.Value fault) = value_fault_text fault
point_fault_text (points.TagForm index) = codes "tag " ++ decimal index ++ codes " has no ="
point_fault_text (points.TagKey index fault) = codes "tag " ++ decimal index ++ codes ": " ++ name_fault_text kinds.TagKey fault
point_fault_text (points.TagValue index fault) = codes "tag " ++ decimal index ++ codes ": " ++ name_fault_text kinds.TagValue fault
point_fault_text (points.Tags fault) = tags_fault_text fault
point_fault_text points.OutOfMemory = codes "out of memory"

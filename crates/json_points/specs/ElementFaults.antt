-- The texts of faults of elements.
use Rattle.std.specs.Prelude.{ℕ, List, ◌++◌, codes}
use Rattle.tsd_base.specs.declared.points.PointFault.TheVariants.{Tags}
use Rattle.tsd_base.specs.declared.tags.TagsFault.{TagsFault}
use Rattle.tsd_base.specs.declared.tags.TagsFault.TheVariants as tags_faults
use Rattle.tsd_base.specs.Faults.{point_fault_text}
use Rattle.json_points.specs.declared.fault.Member.{Member}
use Rattle.json_points.specs.declared.fault.Member.TheVariants as members
use Rattle.json_points.specs.declared.fault.ElementFault.{ElementFault}
use Rattle.json_points.specs.declared.fault.ElementFault.TheVariants.{NotObject, BadMember, Point, OutOfMemory}

-- the name of a member
abbrev pub member_text : Member → List ℕ
member_text members.Metric = codes "metric"
member_text members.Timestamp = codes "timestamp"
member_text members.Value = codes "value"
member_text members.Tags = codes "tags"

-- what is told of an element that is no point
unfoldable pub element_fault_text : ElementFault → List ℕ
element_fault_text NotObject = codes "not an object"
element_fault_text (BadMember member) = codes "bad member " ++ member_text member
element_fault_text (Point fault) = point_fault_text fault
element_fault_text OutOfMemory = codes "out of memory"

-- a fault of tags is the element's, but for want of memory
abbrev pub from_tags : TagsFault → ElementFault
from_tags tags_faults.OutOfMemory = OutOfMemory
from_tags fault = Point (Tags fault)

-- `refusals::number` meets its contract: each arm gives the number that the definition has for its refusal.
-- Assumes nothing.
use native.Mathlib.Omega.{arith}
use Rattle.refusals.proofs.number.Goals as goal

pub enum_told-1 : goal.enum_told-1
enum_told-1 c = omega arith

pub enum_told-in-Mark : goal.enum_told-in-Mark
enum_told-in-Mark c = omega arith

pub enum_told-in-Length : goal.enum_told-in-Length
enum_told-in-Length c = omega arith

pub enum_told-in-Type : goal.enum_told-in-Type
enum_told-in-Type c = omega arith

pub enum_told-in-Protection : goal.enum_told-in-Protection
enum_told-in-Protection c = omega arith

pub enum_told-in-Number : goal.enum_told-in-Number
enum_told-in-Number c = omega arith

pub enum_told-in-Rows : goal.enum_told-in-Rows
enum_told-in-Rows c = omega arith

pub enum_told-in-Resource : goal.enum_told-in-Resource
enum_told-in-Resource c = omega arith

pub enum_told-in-Record : goal.enum_told-in-Record
enum_told-in-Record c = omega arith

pub enum_told-in-Unknown : goal.enum_told-in-Unknown
enum_told-in-Unknown c = omega arith

pub enum_told-in-Other : goal.enum_told-in-Other
enum_told-in-Other c = omega arith

pub enum_told-in-Wide : goal.enum_told-in-Wide
enum_told-in-Wide c = omega arith

pub enum_told-in-Repair : goal.enum_told-in-Repair
enum_told-in-Repair c = omega arith

pub enum_told-in-Crc : goal.enum_told-in-Crc
enum_told-in-Crc c = omega arith

pub enum_told-in-Slot : goal.enum_told-in-Slot
enum_told-in-Slot c = omega arith

pub enum_told-in-Conflict : goal.enum_told-in-Conflict
enum_told-in-Conflict c = omega arith

pub enum_told-in-Field : goal.enum_told-in-Field
enum_told-in-Field c = omega arith

pub enum_told-in-Held : goal.enum_told-in-Held
enum_told-in-Held c = omega arith

pub enum_told-in-Full : goal.enum_told-in-Full
enum_told-in-Full c = omega arith

pub enum_told-in-Room : goal.enum_told-in-Room
enum_told-in-Room c = omega arith

pub enum_told-in-Missing : goal.enum_told-in-Missing
enum_told-in-Missing c = omega arith

pub enum_told-in-Shape : goal.enum_told-in-Shape
enum_told-in-Shape c = omega arith

pub enum_told-in-Size : goal.enum_told-in-Size
enum_told-in-Size c = omega arith

pub enum_told-in-Padding : goal.enum_told-in-Padding
enum_told-in-Padding c = omega arith

pub enum_told-in-Count : goal.enum_told-in-Count
enum_told-in-Count c = omega arith

pub enum_told-in-Output : goal.enum_told-in-Output
enum_told-in-Output c = omega arith

pub enum_told-in-Line : goal.enum_told-in-Line
enum_told-in-Line c = omega arith

pub enum_told-in-Extra : goal.enum_told-in-Extra
enum_told-in-Extra c = omega arith

pub enum_told-in-Lost : goal.enum_told-in-Lost
enum_told-in-Lost c = omega arith

pub enum_told-in-Code : goal.enum_told-in-Code
enum_told-in-Code c = omega arith

pub enum_told-in-Edition : goal.enum_told-in-Edition
enum_told-in-Edition c = omega arith

-- The numbers of the code's own kinds and operations.
use Rattle.std.specs.Prelude.{ℕ}
use Rattle.lapi_base.specs.Packet.Spelling as spelling
use Rattle.lapi_packet.specs.declared.front.Kind.{Kind}
use Rattle.lapi_packet.specs.declared.front.Kind.TheVariants as kinds
use Rattle.lapi_packet.specs.declared.front.Front.{Front}
use Rattle.lapi_packet.specs.declared.operation.Operation.{Operation}
use Rattle.lapi_packet.specs.declared.operation.Operation.TheVariants as operations

abbrev pub kind_number : Kind → ℕ
kind_number kinds.Data = 1
kind_number kinds.Acknowledgement = 2

abbrev pub front_of : Front → spelling.Front
front_of front = record { layout = front.layout; kind = kind_number front.kind; from = front.from; to = front.to }

abbrev pub operation_number : Operation → ℕ
operation_number operations.Put = 1
operation_number operations.Get = 2
operation_number operations.Putv = 3
operation_number operations.Getv = 4
operation_number operations.Rmw = 5
operation_number operations.Am = 6
operation_number operations.Gfence = 7
operation_number operations.Addr = 8

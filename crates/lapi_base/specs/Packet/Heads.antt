-- What each message carries before its payload, by leg and operation, field by field. This is the project's own.
use Rattle.std.specs.Prelude.{ℕ, ◌%◌, Bool, ◌&&◌, ◌||◌, nat_lt, nat_le, ◌==◌, if◌then◌else◌}
use Rattle.lapi_base.specs.declared.reply.Reason.TheVariants as reasons
use Rattle.lapi_base.specs.declared.message.Leg.{Leg}
use Rattle.lapi_base.specs.declared.message.Leg.TheVariants.{Go, Back, Note, Echo, Join}
use Rattle.lapi_base.specs.declared.head.Head.{Head}
use Rattle.lapi_base.specs.declared.head.Head.TheVariants as heads
use Rattle.lapi_base.specs.declared.head.NoteOp.{NoteOp}
use Rattle.lapi_base.specs.declared.head.NoteOp.TheVariants as notes
use Rattle.lapi_base.specs.declared.statement.RmwOp.{RmwOp}
use Rattle.lapi_base.specs.declared.statement.RmwOp.TheVariants as updates
use Rattle.lapi_base.specs.Packet.Format.{Format, Done, ◌>>=◌, field, any, bytes_form, One, Two, Four}
use Rattle.lapi_base.specs.Packet.Layout.{Layout, longest}
use Rattle.lapi_base.specs.Packet.Fields.{memory, range_form, counter_form, word_form, count_form, within_form, covering_form, matching_form}

unfoldable pub put_form : ℕ → Format Head
put_form length = do
  at ← range_form length
  tgt ← counter_form
  cmpl ← counter_form
  Done (heads.Put at tgt cmpl)

unfoldable pub get_go_form : Layout → Format Head
get_go_form layout = do
  asked ← field Four reasons.Field (λ n. nat_le n (longest layout))
  source ← range_form asked
  dest ← range_form asked
  tgt ← counter_form
  org ← counter_form
  Done (heads.GetGo asked source dest tgt org)

unfoldable pub get_back_form : ℕ → Format Head
get_back_form length = do
  dest ← range_form length
  org ← counter_form
  Done (heads.GetBack dest org)

unfoldable pub putv_form : ℕ → Format Head
putv_form length = do
  tgt ← counter_form
  cmpl ← counter_form
  count ← count_form
  pieces ← covering_form length count
  Done (heads.Putv tgt cmpl pieces)

unfoldable pub getv_go_form : Layout → Format Head
getv_go_form layout = do
  tgt ← counter_form
  org ← counter_form
  count ← count_form
  source ← within_form (longest layout) count
  dest ← matching_form source
  Done (heads.GetvGo tgt org source dest)

unfoldable pub getv_back_form : ℕ → Format Head
getv_back_form length = do
  org ← counter_form
  count ← count_form
  dest ← covering_form length count
  Done (heads.GetvBack org dest)

-- 1 Add, 2 Or, 3 Swap, 4 Cas
abbrev pub update_of : ℕ → RmwOp
update_of n = if n == 1 then updates.Add else if n == 2 then updates.Or else if n == 3 then updates.Swap else updates.Cas

unfoldable pub update_form : Format ℕ
update_form = field One reasons.Field (λ n. nat_le 1 n && nat_le n 4)

unfoldable pub rmw_go_form : Format Head
rmw_go_form = do
  op ← update_form
  at ← word_form
  in1 ← any Four
  in2 ← field Four reasons.NotCanonical (λ n. op == 4 || n == 0)
  prev ← word_form
  org ← counter_form
  Done (heads.RmwGo (update_of op) at in1 in2 prev org)

unfoldable pub rmw_back_form : Format Head
rmw_back_form = do
  dest ← word_form
  org ← counter_form
  Done (heads.RmwBack dest org)

-- the bytes of a user header
unfoldable pub header_count_form : Format ℕ
header_count_form = field One reasons.Field (λ n. n % 4 == 0 && nat_le n 64)

unfoldable pub am_form : Format Head
am_form = do
  handler ← field One reasons.Field (λ n. nat_le n 15)
  tgt ← counter_form
  cmpl ← counter_form
  count ← header_count_form
  header ← bytes_form count
  Done (heads.Am handler tgt cmpl header)

-- 1 put, 3 putv, 6 am
abbrev pub note_op_of : ℕ → NoteOp
note_op_of op = if op == 1 then notes.Put else if op == 3 then notes.Putv else notes.Am

unfoldable pub note_form : NoteOp → Format Head
note_form op = do
  cmpl ← field One reasons.Field (λ n. nat_lt n 64)
  Done (heads.Note op cmpl)

unfoldable pub echo_form : Format Head
echo_form = do
  dest ← word_form
  cmpl ← counter_form
  Done (heads.Echo dest cmpl)

-- the number of a collective call
unfoldable pub round_form : Format ℕ
round_form = field Two reasons.Field (λ n. nat_le n 511)

unfoldable pub gfence_form : Format Head
gfence_form = do
  round ← round_form
  Done (heads.Gfence round)

unfoldable pub addr_form : Format Head
addr_form = do
  round ← round_form
  address ← field Four reasons.Field (λ n. nat_le n memory)
  Done (heads.Addr round address)

-- The operations are 1 put, 2 get, 3 putv, 4 getv, 5 rmw, 6 am, 7 gfence and 8 addr. These go with a leg.
abbrev pub is_operation : Leg → ℕ → Bool
is_operation Go op = nat_le 1 op && nat_le op 6
is_operation Back op = op == 2 || op == 4 || op == 5
is_operation Note op = op == 1 || op == 3 || op == 6
is_operation Echo op = op == 6
is_operation (Join _) op = op == 7 || op == 8

unfoldable pub operation_form : Leg → Format ℕ
operation_form leg = field One reasons.Kind (is_operation leg)

unfoldable pub head_form : Layout → Leg → ℕ → ℕ → Format Head
head_form layout Go op length =
    if op == 1 then put_form length
    else if op == 2 then get_go_form layout
    else if op == 3 then putv_form length
    else if op == 4 then getv_go_form layout
    else if op == 5 then rmw_go_form
    else am_form
head_form layout Back op length = if op == 2 then get_back_form length else if op == 4 then getv_back_form length else rmw_back_form
head_form layout Note op length = note_form (note_op_of op)
head_form layout Echo op length = echo_form
head_form layout (Join _) op length = if op == 7 then gfence_form else addr_form

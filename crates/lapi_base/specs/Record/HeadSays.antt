-- What the head of a packet says of the landing of its message: whether a header handler is called, where the bytes
-- go, which counter is announced, which message follows and with which head. These are words of this project.
use Rattle.std.specs.Prelude.{ℕ, Bool, true, false, cond, List, [], ◌∷◌, Option, Some, None, is_some, option_map}
use Rattle.lapi_base.specs.declared.span.Span.{Span}
use Rattle.lapi_base.specs.declared.script.Script.{Script}
use Rattle.lapi_base.specs.declared.rule.Rules.{Rules}
use Rattle.lapi_base.specs.declared.message.Leg.TheVariants.{Back, Note}
use Rattle.lapi_base.specs.declared.message.MsgName.{MsgName}
use Rattle.lapi_base.specs.declared.event.Event.{Event}
use Rattle.lapi_base.specs.declared.event.Event.TheVariants.{Copy}
use Rattle.lapi_base.specs.declared.head.Head.{Head}
use Rattle.lapi_base.specs.declared.head.NoteOp.{NoteOp}
use Rattle.lapi_base.specs.declared.head.Head.TheVariants as heads
use Rattle.lapi_base.specs.Record.Names.{message}
use Rattle.lapi_base.specs.Record.Operations.{one_span}
use Rattle.lapi_base.specs.Record.Handlers.{number_of, word_bytes, buffer}
use Rattle.lapi_base.specs.Record.Values.{Memories, Write, gathered, scattered, rmw_word}

-- a header handler is called for its message
abbrev pub is_active : Head → Bool
is_active (heads.Am handler tgt cmpl header) = true
is_active _ = false

-- where the bytes of a message with this head and length go
abbrev pub head_pieces : Head → (length : ℕ) → List Span
head_pieces (heads.Put at tgt cmpl) n = one_span at n
head_pieces (heads.Putv tgt cmpl pieces) n = pieces
head_pieces (heads.GetBack dest org) n = one_span dest n
head_pieces (heads.GetvBack org dest) n = dest
head_pieces (heads.RmwBack dest org) n = one_span dest n
head_pieces (heads.Echo dest cmpl) n = one_span dest n
head_pieces _ n = []

-- the counter that the landing announces; an active message with a completion announces its counter later
abbrev pub announces : Head → (completion : Bool) → Option ℕ
announces (heads.Put at tgt cmpl) completion = tgt
announces (heads.Putv tgt cmpl pieces) completion = tgt
announces (heads.Am handler tgt cmpl header) completion = cond completion None tgt
announces (heads.GetGo asked source dest tgt org) completion = tgt
announces (heads.GetvGo tgt org source dest) completion = tgt
announces (heads.GetBack dest org) completion = org
announces (heads.GetvBack org dest) completion = org
announces (heads.RmwBack dest org) completion = org
announces (heads.Note op cmpl) completion = Some cmpl
announces (heads.Echo dest cmpl) completion = cmpl
announces _ completion = None

abbrev pub noted : MsgName → Option ℕ → List Event
noted m cmpl = cond (is_some cmpl) (Copy (message m.origin m.statement Note) ∷ []) []

abbrev pub answered : MsgName → List Event
answered m = Copy (message m.origin m.statement Back) ∷ []

-- what follows the landing of a message with this head; an active message with a completion has its notice later
unfoldable pub follows : Head → (completion : Bool) → MsgName → List Event
follows (heads.Put at tgt cmpl) completion m = noted m cmpl
follows (heads.Putv tgt cmpl pieces) completion m = noted m cmpl
follows (heads.Am handler tgt cmpl header) completion m = cond completion [] (noted m cmpl)
follows (heads.GetGo asked source dest tgt org) completion m = answered m
follows (heads.GetvGo tgt org source dest) completion m = answered m
follows (heads.RmwGo op at in1 in2 prev org) completion m = answered m
follows _ completion m = []

-- the head of the Back that answers it, if one does,
abbrev pub back_head : Head → Option Head
back_head (heads.GetGo asked source dest tgt org) = Some (heads.GetBack dest org)
back_head (heads.GetvGo tgt org source dest) = Some (heads.GetvBack org dest)
back_head (heads.RmwGo op at in1 in2 prev org) = Some (heads.RmwBack prev org)
back_head _ = None

-- and the pieces at the target whose bytes that brings
abbrev pub asked_pieces : Head → List Span
asked_pieces (heads.GetGo asked source dest tgt org) = one_span source asked
asked_pieces (heads.GetvGo tgt org source dest) = source
asked_pieces (heads.RmwGo op at in1 in2 prev org) = one_span at 4
asked_pieces _ = []

-- the head of the Note that tells of it, where it names a counter
abbrev pub note_head : Head → Option Head
note_head (heads.Put at tgt cmpl) = option_map (heads.Note NoteOp.Put) cmpl
note_head (heads.Putv tgt cmpl pieces) = option_map (heads.Note NoteOp.Putv) cmpl
note_head (heads.Am handler tgt cmpl header) = option_map (heads.Note NoteOp.Am) cmpl
note_head _ = None

module _ (script : Script) (rules : Rules) where
  -- what the landing of message m with this head and these bytes writes at a task, whose memory was so before
  abbrev pub lands : Memories → (task : ℕ) → MsgName → Head → (length : ℕ) → List ℕ → List Write
  lands memory t m (heads.RmwGo op at in1 in2 prev org) n bytes =
      let old = number_of (gathered memory t (one_span at 4)) in
      scattered (one_span at 4) (word_bytes (rmw_word op old in1 in2))
  lands memory t m (heads.Am handler tgt cmpl header) n bytes = scattered (buffer script rules m) bytes
  lands memory t m head n bytes = scattered (head_pieces head n) bytes

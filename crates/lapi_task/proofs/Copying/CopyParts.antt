-- A copy that is made of what its statement says is that of the statement.
use Rattle.std.proofs.Common.{◌≡◌, ℕ, ◌<◌, ◌≤◌, Bool, true, false, cond, List, [], ◌∷◌, length, Option, None, refl, sym, ap, ◌∙◌, arith}
use Rattle.std.specs.Prelude.{slice_index_or}
use Rattle.std.specs.List.{flat_map}
use Rattle.std.proofs.lemmas.List.{append-nil}
use Rattle.lapi_base.specs.declared.head.Head.{Head}
use Rattle.lapi_base.specs.declared.message.Leg.TheVariants.{Go}
use Rattle.lapi_base.specs.declared.packet.DataPacket.{DataPacket}
use Rattle.lapi_base.specs.declared.script.Script.{Script}
use Rattle.lapi_base.specs.declared.span.Span.{Span}
use Rattle.lapi_base.specs.declared.statement.Statement.{Statement}
use Rattle.lapi_base.specs.Record.Names.{message}
use Rattle.lapi_base.specs.Record.Operations.{statement, target, spans, origin_pieces, org_counter, has_back, length_by, message_length}
use Rattle.lapi_base.specs.Record.Packets.{head_by}
use Rattle.lapi_calls.specs.Calls.{peer_of}
use Rattle.lapi_memory.specs.TaskMemory.{bytes_at}
use Rattle.lapi_task.specs.declared.copy.DataCopy.{DataCopy}
use Rattle.lapi_task.specs.Copies.{copy_of}
use Rattle.lapi_task.specs.Outgoing.{outgoing}

module _ (script : Script) (t i : ℕ) (s : Statement) (same : s ≡ statement script t i) where
  abbrev made : (layout to len : ℕ) → Head → (payload : List ℕ) → DataPacket
  made layout to len head payload = record { layout = layout; from = t; to = to; seq = 0; name = message t i Go; head = head; length = len; fragment = 0; payload = payload }

  pub message-made : (layout to len : ℕ) (head : Head) (payload : List ℕ) → layout ≡ script.layout → to ≡ peer_of t s → len ≡ length_by Go s → head ≡ head_by script (message t i Go) Go s → payload ≡ [] → made layout to len head payload ≡ outgoing script (message t i Go)
  unfolding message_length
  message-made layout to len head payload own a b c d = λ k. made (own k) ((a ∙ ap (peer_of t) same) k) ((b ∙ ap (length_by Go) same) k) ((c ∙ ap (head_by script (message t i Go) Go) same) k) (d k)

  copy-made : (m : DataPacket) (source : List Span) (counter : Option ℕ) (b : Bool) → m ≡ outgoing script (message t i Go) → b ≡ has_back s → source ≡ cond b [] (spans script (target script t i) (origin_pieces s)) → counter ≡ cond b None (org_counter s) → (let c : DataCopy = record { message = m; source = source; counter = counter } in c) ≡ copy_of script t i
  copy-made m source counter b is back from org = λ k. record {
    message = is k;
    source = (from ∙ λ j. cond ((back ∙ ap has_back same) j) [] (spans script (target script t i) (origin_pieces (same j)))) k;
    counter = (org ∙ λ j. cond ((back ∙ ap has_back same) j) None (org_counter (same j))) k;
  }

  -- the data come back,
  pub asks : (m : DataPacket) (source : List Span) → m ≡ outgoing script (message t i Go) → true ≡ has_back s → source ≡ [] → (let c : DataCopy = record { message = m; source = source; counter = None } in c) ≡ copy_of script t i
  asks m source is back empty = copy-made m source None true is back empty refl

  -- or go out
  pub brings : (m : DataPacket) (source : List Span) (counter : Option ℕ) → m ≡ outgoing script (message t i Go) → false ≡ has_back s → source ≡ spans script (target script t i) (origin_pieces s) → counter ≡ org_counter s → (let c : DataCopy = record { message = m; source = source; counter = counter } in c) ≡ copy_of script t i
  brings m source counter is back from org = copy-made m source counter false is back from org

-- the bytes of the only piece are all
pub one-piece : (memory : List ℕ) (pieces source : List Span) (bytes : List ℕ) → pieces ≡ source → 1 ≤ length pieces → length pieces < 2 → (let p = slice_index_or pieces 0 (record { at = 0; len = 0 }) in bytes ≡ bytes_at memory p.at p.len) → bytes ≡ flat_map (λ (p : Span). bytes_at memory p.at p.len) source
one-piece memory [] source bytes same some one is = absurd (omega (arith, some))
one-piece memory (p ∷ q ∷ ps) source bytes same some one is = absurd (omega (arith, one))
one-piece memory (p ∷ []) source bytes same some one is = is ∙ sym (append-nil (bytes_at memory p.at p.len)) ∙ ap (flat_map (λ (p : Span). bytes_at memory p.at p.len)) same

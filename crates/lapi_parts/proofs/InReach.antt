-- How far the packets of a link run ahead of those handed over, and of how many messages some are there.
use Rattle.std.proofs.Common.{◌≡◌, ℕ, ◌+◌, ◌<◌, true, false, Some, subst}
use Rattle.std.specs.Prelude.{slice_get}
use Rattle.std.proofs.lemmas.Bool.{both_ways, false_from_ne_true}
use Rattle.lapi_base.specs.declared.script.Script.{Script}
use Rattle.lapi_base.specs.declared.rule.Rules.{Rules}
use Rattle.lapi_base.specs.declared.message.MsgName.{MsgName}
use Rattle.lapi_base.specs.declared.packet.Packet.TheVariants.{Data}
use Rattle.lapi_base.specs.declared.packet.DataPacket.{DataPacket}
use Rattle.lapi_base.specs.Packet.Layout.{window_of}
use Rattle.lapi_base.specs.Record.Operations.{sender, fragment_count}
use Rattle.lapi_base.specs.Record.Wires.{Run, numbered, is_number, has_number, is_delivered, IsEntry}
use Rattle.lapi_base.specs.Laws.Links.{IsPartlyDelivered, StaysInWindow, FewArePartial}
use Rattle.lapi_base.specs.Record.WorldView.{HoldsOfRecords}
use Rattle.lapi_base.specs.Record.Arrived.{is_part_of, is_fragment, has_some, has_fragment, whole_by, is_whole}
use Rattle.lapi_base.specs.Laws.Receiving.{PacketsAreInReach, IsThereInPart, FewAreThereInPart}
use Rattle.lapi_base.proofs.BelowLaws.{every_below-fails}
use Rattle.lapi_base.proofs.ListLaws.{all-weaker, any-find, any-get}
use Rattle.lapi_base.proofs.TestLaws.{eqb-refl}
use Rattle.lapi_laws.proofs.Out.{numbered-copied}
use Rattle.lapi_laws.proofs.Sound.{Fits}
use Rattle.lapi_laws.proofs.Lines.{SoundRun}
use Rattle.lapi_laws.proofs.Reach.{sent-reach}
use Rattle.lapi_laws.proofs.Partial.{few-partial}
use Rattle.lapi_parts.proofs.Records.{of-runs, record-sound}
use Rattle.lapi_parts.proofs.HandedPackets.{of-fit, fit-fragment, numbered-has, least-local}

module _ (script : Script) (rules : Rules) (r : Run) (s : SoundRun script rules r) where
  -- a packet of the wire has its number there
  sent-at : (a b k : ℕ) (p : DataPacket) → IsEntry r a b k (Data p) → has_number (r.wire a b) p.seq ≡ true
  unfolding has_number
  sent-at a b k p at = any-get (is_number p.seq) (r.wire a b) k (Data p) at (eqb-refl p.seq)

  -- a message that is there in part has a number that was delivered, and one that wasn't
  pub part-delivered : (a b : ℕ) (m : MsgName) → IsThereInPart script rules (r.handed a b) m → IsPartlyDelivered script rules r a b m
  unfolding has_some is_whole whole_by has_fragment has_number
  part-delivered a b m h =
      let Fit = Fits script rules r.journal r.handed a b in
      let there = any-find (is_part_of m) Fit (r.handed a b) (s.hands a b) h.0 in
      let number = of-fit script rules r.journal r.handed a b m there.0 there.2 there.1 in
      let copied = numbered-copied script r.journal a b number.0 (m, number.1) number.3 in
      let gap = every_below-fails (fragment_count script m) (has_fragment (r.handed a b) m) h.1 in
      let other = numbered-has script r.journal m gap.0 copied.0 gap.1 in
      let at : slice_get (numbered script r.journal a b) other.0 ≡ Some (m, gap.0) = subst (λ (x : ℕ). slice_get (numbered script r.journal x b) other.0 ≡ Some (m, gap.0)) copied.1 (subst (λ (y : ℕ). slice_get (numbered script r.journal (sender script m) y) other.0 ≡ Some (m, gap.0)) copied.2 other.1) in
      let not-there : is_delivered r a b other.0 ≡ false = false_from_ne_true _ (λ d.
      let q = any-find (is_number other.0) Fit (r.handed a b) (s.hands a b) d in
      both_ways _ gap.2 (q.3 (is_fragment m gap.0) (fit-fragment script rules r.journal r.handed a b m other.0 gap.0 q.0 q.2 at q.1).0)) in
      (number.0, other.0, (number.1, number.3), there.3 (is_number number.0) number.2, (gap.0, at), not-there)

-- the laws
pub packets-in-reach : HoldsOfRecords PacketsAreInReach
packets-in-reach script rules r is = λ a b k p at.
    let s = record-sound script rules r is in
    subst (λ (n : ℕ). p.seq < n + window_of script) (least-local script rules r.journal r.handed a b (r.handed a b) (s.hands a b))
    (of-runs StaysInWindow sent-reach script rules r is a b p.seq (sent-at script rules r s a b k p at))

pub few-in-part : HoldsOfRecords FewAreThereInPart
few-in-part script rules r is = λ a b ms apart all.
    let s = record-sound script rules r is in
    of-runs FewArePartial few-partial script rules r is a b ms apart (all-weaker (IsThereInPart script rules (r.handed a b)) (IsPartlyDelivered script rules r a b) (λ m h. part-delivered script rules r s a b m h) ms all)

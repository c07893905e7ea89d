-- Once everything is delivered a record is quiet.
use Rattle.std.proofs.Common.{◌≡◌, ℕ, zero, suc, ◌<◌, Bool, true, false, List, [], ◌∷◌, length, ap, ◌∙◌, subst, arith}
use Rattle.std.specs.Prelude.{slice_index_or}
use Rattle.std.specs.List.{list_any, Contains}
use Rattle.std.proofs.lemmas.Bool.{both_ways, or_right, or_left, false_from_ne_true}
use Rattle.std.proofs.lemmas.Option.{slice_get_within}
use Rattle.lapi_base.specs.declared.script.Script.{Script}
use Rattle.lapi_base.specs.declared.rule.Rules.{Rules}
use Rattle.lapi_base.specs.declared.packet.Packet.{Packet}
use Rattle.lapi_base.specs.declared.packet.Packet.TheVariants.{Data, Ack}
use Rattle.lapi_base.specs.Record.Wires.{Run, numbered, is_number, covers, has_number, has_ack, is_sent}
use Rattle.lapi_base.specs.Record.Final.{Quiet, WasHanded, AllDelivered}
use Rattle.lapi_base.proofs.BelowLaws.{least_missing-least}
use Rattle.lapi_base.proofs.ListLaws.{any-all}
use Rattle.lapi_laws.proofs.Lines.{SoundRun}
use Rattle.lapi_laws.proofs.Sound.{Fits, number-known, acked-delivered}
use Rattle.lapi_laws.proofs.SentWindow.{WindowRun}
use Rattle.lapi_laws.proofs.LastAck.{Tells, ToldRun}
use Rattle.lapi_laws.proofs.Still.{linked}

any-at : {X : Type 0} (t : X → Bool) (xs : List X) (k : ℕ) (x : X) → k < length xs → t (slice_index_or xs k x) ≡ true → list_any t xs ≡ true
any-at t [] k x l h = absurd (omega arith)
any-at t (y ∷ xs) zero x l h = or_left _ _ h
any-at t (y ∷ xs) (suc k) x l h = or_right _ _ (any-at t xs k x (let q : k < length xs = omega arith in q) h)

contains-any : {X : Type 0} (t : X → Bool) (xs : List X) (x : X) → Contains xs x → t x ≡ true → list_any t xs ≡ true
contains-any t xs x c h = any-at t xs c.0 x c.1 (ap t c.2 ∙ h)

module _ (script : Script) (rules : Rules) where
  covered : (r : Run) → SoundRun script rules r → WindowRun script rules r → (a b n : ℕ) → is_sent r a b n ≡ true → (p : Packet) → Tells script rules (has_number (r.handed a b)) p → has_number (r.handed a b) n ≡ true → covers n p ≡ true
  covered r s w a b n sent (Data p) t d = absurd t
  covered r s w a b n sent (Ack layout from to least bits) t d =
      let unacked : has_ack (r.handed b a) least ≡ false = false_from_ne_true _ (λ h. both_ways _ t.0 (acked-delivered script rules r.journal r.wire r.handed s a b least h)) in
      let low = least_missing-least (length (numbered script r.journal a b)) (has_ack (r.handed b a)) least unacked in
      t.1 n d (omega (arith, low, w a b n sent))

  -- a number that was sent is one of the link
  number-room : (r : Run) → SoundRun script rules r → (a b n : ℕ) → is_sent r a b n ≡ true → n < length (numbered script r.journal a b)
  unfolding has_number
  number-room r s a b n h =
      let p = any-all (is_number n) (Fits script rules r.journal r.handed a b) (r.wire a b) (s.wires a b) h in
      let x = number-known script rules r.journal r.handed a b n p.0 p.1 p.2 in
      slice_get_within (numbered script r.journal a b) n x.0 x.1

  -- The last acknowledgement of each wire tells of all that was sent.
  pub delivered-quiet : (r : Run) → SoundRun script rules r → WindowRun script rules r → ToldRun script rules r → AllDelivered script rules r → Quiet script rules r
  unfolding has_ack
  delivered-quiet r s w told all = record {
    acked = λ a b n sent.
        let d = all.delivered a b n sent in
        let ends = linked script rules r.journal s.atomic a b n (number-room r s a b n sent) in
        let last = told a b (all.none_owed a b ends.0 ends.1) n d in
        let handed = subst (WasHanded script rules r b a) last.1.0 (all.told b a) in
        contains-any (covers n) (r.handed b a) last.0 handed (covered r s w a b n sent last.0 last.1.1 d);
    resting = all.resting;
    none_owed = all.none_owed;
  }

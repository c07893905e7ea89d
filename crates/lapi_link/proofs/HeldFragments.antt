-- What fragments have come of a message, as the packets that were handed over tell.
use Rattle.std.proofs.Common.{◌≡◌, ℕ, Bool, true, false, cond, ◌||◌, List, [], ◌∷◌, Some, None, is_some, refl, sym, ap, ◌∙◌}
use Rattle.std.specs.Prelude.{slice_get}
use Rattle.std.specs.Option.{unwrap_or}
use Rattle.lapi_base.specs.declared.script.Script.{Script}
use Rattle.lapi_base.specs.declared.message.MsgName.{MsgName}
use Rattle.lapi_base.specs.declared.packet.Packet.{Packet}
use Rattle.lapi_base.specs.declared.packet.Packet.TheVariants.{Data}
use Rattle.lapi_base.specs.declared.packet.DataPacket.{DataPacket}
use Rattle.lapi_base.specs.Record.Arrived.{is_fragment, has_fragment, payload_of}
use Rattle.lapi_base.proofs.HeldPackets.{payload-held, no-payload}
use Rattle.lapi_link.specs.Receiver.{fragment_at}

module _ (script : Script) (ps : List Packet) (m : MsgName) (j : ℕ) where
  pub is_some-at : is_some (fragment_at script ps m j) ≡ has_fragment ps m j
  is_some-at = by_test (has_fragment ps m j)
    where
      by_test : (b : Bool) → is_some (cond b (Some (payload_of ps m j)) None) ≡ b
      by_test true = refl
      by_test false = refl

  pub bytes-at : unwrap_or (fragment_at script ps m j) [] ≡ payload_of ps m j
  bytes-at =
      elim (has_fragment ps m j) as (λ b. has_fragment ps m j ≡ b → unwrap_or (cond b (Some (payload_of ps m j)) None) [] ≡ payload_of ps m j) [
        | true ↦ λ e. refl
        | false ↦ λ e. sym (no-payload ps m j e)
      ] refl

  pub missing-at : has_fragment ps m j ≡ false → fragment_at script ps m j ≡ None
  missing-at e = ap (λ b. cond b (Some (payload_of ps m j)) None) e

  pub first-at : (p : DataPacket) → is_fragment m j (Data p) ≡ true → fragment_at script (Data p ∷ ps) m j ≡ Some p.payload
  unfolding has_fragment payload_of
  first-at p e = ap (λ b. cond (b || has_fragment ps m j) (Some (cond b p.payload (payload_of ps m j))) None) e

  pub later-at : (p : DataPacket) → is_fragment m j (Data p) ≡ false → fragment_at script (Data p ∷ ps) m j ≡ fragment_at script ps m j
  unfolding has_fragment payload_of
  later-at p e = ap (λ b. cond (b || has_fragment ps m j) (Some (cond b p.payload (payload_of ps m j))) None) e

  -- a fragment whose packets have one payload
  pub held-at : (payload : List ℕ) → has_fragment ps m j ≡ true → ((k : ℕ) (q : DataPacket) → slice_get ps k ≡ Some (Data q) → q.name ≡ m → q.fragment ≡ j → q.payload ≡ payload) → fragment_at script ps m j ≡ Some payload
  held-at payload there one =
      let h = payload-held ps m j there in
      ap (λ b. cond b (Some (payload_of ps m j)) None) there
      ∙ ap Some (h.payload ∙ one h.place h.packet h.at h.name h.fragment)

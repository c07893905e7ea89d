-- The fragments of a message that came in whole are its bytes.
use Rattle.std.proofs.Common.{◌≡◌, ℕ, zero, suc, ◌+◌, ◌*◌, ◌/◌, ◌<◌, ◌≤◌, ◌==◌, max, true, false, cond, ◌||◌, List, [], ◌∷◌, ◌++◌, take, drop, refl, sym, ap, ◌∙◌, arith}
use Rattle.std.specs.List.{AllByRecursion, list_any, flat_map}
use Rattle.std.proofs.lemmas.Bool.{false≢true, and_parts, eqb-true}
use Rattle.std.proofs.lemmas.List.{append-nil, take_all}
use Rattle.std.proofs.lemmas.Grind.{flat_map-append}
use Rattle.std.proofs.Math.Seq.{take-add}
use Rattle.std.proofs.Math.Nat.{mul-suc}
use Rattle.lapi_base.specs.declared.script.Script.{Script}
use Rattle.lapi_base.specs.declared.rule.Rules.{Rules}
use Rattle.lapi_base.specs.declared.message.MsgName.{MsgName}
use Rattle.lapi_base.specs.declared.event.Event.{Event}
use Rattle.lapi_base.specs.declared.packet.Packet.{Packet}
use Rattle.lapi_base.specs.declared.packet.Packet.TheVariants.{Data, Ack}
use Rattle.lapi_base.specs.declared.packet.DataPacket.{DataPacket}
use Rattle.lapi_base.specs.Packet.Layout.{Layout, First, Second, layout_of, unit, unit_of}
use Rattle.lapi_base.specs.Record.Fragments.{fragments_in}
use Rattle.lapi_base.specs.Record.Below.{below}
use Rattle.lapi_base.specs.Record.Names.{name_eq, Copied, happened}
use Rattle.lapi_base.specs.Record.Operations.{numbers_below, message_length, fragment_count}
use Rattle.lapi_base.specs.Record.Packets.{data_packet}
use Rattle.lapi_base.specs.Record.Atomic.{Atomic}
use Rattle.lapi_base.specs.Laws.Entries.{carried}
use Rattle.lapi_base.specs.Record.Arrived.{is_fragment, has_fragment, whole_by, is_whole, payload_of, assembled}
use Rattle.lapi_base.proofs.BelowLaws.{every_below-at}
use Rattle.lapi_base.proofs.NameLaws.{name_eq-true}
use Rattle.lapi_parts.proofs.ExactBytes.{Exact}
use Rattle.lapi_parts.proofs.CarriedLengths.{carried-length}

payload_in : Packet → List ℕ
payload_in (Data p) = p.payload
payload_in (Ack layout from to base bits) = []

-- pieces of one size, put together
pieces : (unit n : ℕ) (bytes : List ℕ) (f : ℕ → List ℕ) → ((j : ℕ) → j < n → f j ≡ take unit (drop (unit * j) bytes)) → flat_map f (numbers_below n) ≡ take (unit * n) bytes
unfolding numbers_below below
pieces unit zero bytes f h = sym (ap (λ k. take k bytes) (let q : unit * 0 ≡ 0 = omega arith in q))
pieces unit (suc n) bytes f h =
    flat_map-append f (numbers_below n) (n ∷ [])
    ∙ ap (λ xs. xs ++ (f n ++ [])) (pieces unit n bytes f (λ j l. h j (let q : j < suc n = omega arith in q)))
    ∙ ap (λ xs. take (unit * n) bytes ++ xs) (append-nil (f n) ∙ h n (let q : n < suc n = omega arith in q))
    ∙ sym (ap (λ k. take k bytes) (mul-suc unit n) ∙ take-add (unit * n) unit bytes)

module _ (script : Script) (rules : Rules) where
  -- fragment j of what a message carries
  abbrev Piece : List Event → MsgName → ℕ → List ℕ
  Piece J m j = take (unit_of script) (drop (unit_of script * j) (carried script rules J m))

  one-payload : (J : List Event) (m : MsgName) (j : ℕ) (p : DataPacket) → Exact script rules J (Data p) → is_fragment m j (Data p) ≡ true → p.payload ≡ Piece J m j
  unfolding payload_in data_packet
  one-payload J m j p x h =
      let both = and_parts (name_eq m p.name) (p.fragment == j) h in
      ap payload_in x
      ∙ ap (λ (k : MsgName). Piece J k p.fragment) (sym (name_eq-true m p.name both.0))
      ∙ ap (λ i. Piece J m i) (eqb-true p.fragment j both.1)

  payload-exact : (J : List Event) (m : MsgName) (j : ℕ) (ps : List Packet) → AllByRecursion (Exact script rules J) ps → has_fragment ps m j ≡ true → payload_of ps m j ≡ Piece J m j
  unfolding payload_of has_fragment
  payload-exact J m j [] x h = absurd (false≢true h)
  payload-exact J m j (Data p ∷ ps) x h =
      elim (is_fragment m j (Data p)) as (λ b. is_fragment m j (Data p) ≡ b → (b || list_any (is_fragment m j) ps) ≡ true → cond b p.payload (payload_of ps m j) ≡ Piece J m j) [
        | true ↦ λ e _. one-payload J m j p x.0 e
        | false ↦ λ _ g. payload-exact J m j ps x.1 g
      ] refl h
  payload-exact J m j (Ack layout from to base bits ∷ ps) x h = payload-exact J m j ps x.1 h

  long-enough : (m : MsgName) → message_length script m ≤ unit_of script * fragment_count script m
  unfolding fragment_count unit_of
  long-enough m = each (layout_of script.layout) (message_length script m)
    where
      each : (l : Layout) (n : ℕ) → n ≤ unit l * fragments_in (unit l) n
      each First n = let q : n ≤ 256 * max 1 ((n + 255) / 256) = omega arith in q
      each Second n = let q : n ≤ 1024 * max 1 ((n + 1023) / 1024) = omega arith in q

  -- Whole, they are its bytes.
  pub assembled-bytes : (J : List Event) (m : MsgName) (ps : List Packet) → Atomic script rules J → happened (Copied m) J ≡ true → AllByRecursion (Exact script rules J) ps → is_whole script ps m ≡ true → assembled (fragment_count script m) ps m ≡ carried script rules J m
  unfolding assembled is_whole whole_by
  assembled-bytes J m ps h d x whole =
      let count = fragment_count script m in
      pieces (unit_of script) count (carried script rules J m) (payload_of ps m) (λ j l. payload-exact J m j ps x (every_below-at count (has_fragment ps m) j whole l))
      ∙ take_all (unit_of script * count) (carried script rules J m) (omega (arith, carried-length script rules J m h d, long-enough m))

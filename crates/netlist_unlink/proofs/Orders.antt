-- New numbers of nets, and back.
use Rattle.std.proofs.Common.{◌≡◌, ℕ, suc, ◌<◌, ◌≤◌, length, get_or, refl, ap, ◌∙◌, inl, inr, arith, Some}
use Rattle.std.specs.Prelude.{slice_get, unwrap_or, ltb, if◌then◌else◌}
use Rattle.std.proofs.lemmas.Bool.Decides.{leb_tells}
use Rattle.std.proofs.lemmas.Option.{slice_get_within, slice_get-get_or}
use Rattle.netlist_model.specs.Lists.{NetlistView}
use Rattle.netlist_unlink.specs.Renumbered.{net_order, place_of, IsEachOnce}
use Rattle.netlist_unlink.specs.ImagesLaws.{new_number}

abbrev pub old_number : NetlistView → ℕ → ℕ
old_number N net = if ltb net (length N.nets) then unwrap_or (slice_get (net_order N) net) 0 else net

pub new_number-below : (N : NetlistView) (net : ℕ) → net < length N.nets → new_number N net ≡ place_of (net_order N) net
new_number-below N net less =
    elim (leb_tells (suc net) (length N.nets)) [
      | inl h ↦ rw h.0 refl
      | inr h ↦ absurd (let g = h.1 in omega arith)
    ]

new_number-above : (N : NetlistView) (net : ℕ) → length N.nets ≤ net → new_number N net ≡ net
new_number-above N net least =
    elim (leb_tells (suc net) (length N.nets)) [
      | inl h ↦ absurd (let g = h.1 in omega arith)
      | inr h ↦ rw h.0 refl
    ]

old_number-below : (N : NetlistView) (place net : ℕ) → place < length N.nets → slice_get (net_order N) place ≡ Some net → old_number N place ≡ net
old_number-below N place net less at =
    elim (leb_tells (suc place) (length N.nets)) [
      | inl h ↦ rw (h.0, at) refl
      | inr h ↦ absurd (let g = h.1 in omega arith)
    ]

old_number-above : (N : NetlistView) (place : ℕ) → length N.nets ≤ place → old_number N place ≡ place
old_number-above N place least =
    elim (leb_tells (suc place) (length N.nets)) [
      | inl h ↦ absurd (let g = h.1 in omega arith)
      | inr h ↦ rw h.0 refl
    ]

pub old_of_new : (N : NetlistView) → IsEachOnce (length N.nets) (net_order N) → (net : ℕ) → old_number N (new_number N net) ≡ net
old_of_new N once net =
    elim (leb_tells (suc net) (length N.nets)) [
      | inl h ↦
          let less : net < length N.nets = h.1 in
          let at = once.each net less in
          let many = once.many in
          let inside = slice_get_within (net_order N) (place_of (net_order N) net) net at in
          ap (old_number N) (new_number-below N net less) ∙ old_number-below N (place_of (net_order N) net) net (omega arith) at
      | inr h ↦
          let g = h.1 in
          let least : length N.nets ≤ net = omega arith in
          ap (old_number N) (new_number-above N net least) ∙ old_number-above N net least
    ]

pub new_of_old : (N : NetlistView) → IsEachOnce (length N.nets) (net_order N) → (place : ℕ) → new_number N (old_number N place) ≡ place
new_of_old N once place =
    elim (leb_tells (suc place) (length N.nets)) [
      | inl h ↦
          let less : place < length N.nets = h.1 in
          let many = once.many in
          let inside : place < length (net_order N) = omega arith in
          let net : ℕ = get_or (net_order N) place 0 in
          let at : slice_get (net_order N) place ≡ Some net = slice_get-get_or (net_order N) place 0 inside in
          let below = once.only place net at in
          ap (new_number N) (old_number-below N place net less at) ∙ new_number-below N net below
          ∙ once.once (place_of (net_order N) net) place net (once.each net below) at
      | inr h ↦
          let g = h.1 in
          let least : length N.nets ≤ place = omega arith in
          ap (new_number N) (old_number-above N place least) ∙ new_number-above N place least
    ]

-- Devices and hosts of a net without namesakes are told apart by their names.
use Rattle.std.proofs.Common.{◌≡◌, ℕ, zero, suc, ◌<◌, ◌≤◌, List, [], ◌∷◌, ◌++◌, length, get_or, take, map, Bool, true, false, Some, None, refl, sym, ap, subst, ◌∙◌, arith, inl, inr, append_assoc, append-nil}
use Rattle.std.proofs.Common.{length-take}
use Rattle.std.specs.Prelude.{◌⊎◌, bytes_eq, if◌then◌else◌}
use Rattle.std.specs.List.{list_any, All}
use Rattle.std.proofs.lemmas.Bool.{cases_lt}
use Rattle.std.proofs.lemmas.List.{get_or-take, get_or-map}
use Rattle.std.proofs.lemmas.List.Folds.{list_any_at}
use Rattle.std.proofs.lemmas.Slice.Eq.{bytes_eq-Decides}
use Rattle.sl_parts.specs.declared.parts.DevicePart.{DevicePart}
use Rattle.sl_parts.specs.declared.parts.HostPart.{HostPart}
use Rattle.sl_parts.specs.Text.{IsName}
use Rattle.sl_parts.specs.Parts.{Parts}
use Rattle.sl_parts.specs.Fault.{fault_of, first_clash}
use Rattle.sl_net.specs.Spelling.{device_name, host_name}
use Rattle.sl_net.proofs.NetWired.{faultless}

module _ {A : Type 0} where
  -- where nothing clashes, no element clashes with those before it
  pub no_clash : (clashes : List A → A → Bool) (before xs : List A) (j : ℕ) (d : A) → first_clash clashes before xs ≡ None → j < length xs → clashes (before ++ take j xs) (get_or xs j d) ≡ false
  no_clash clashes before [] j d h p = absurd (omega arith)
  no_clash clashes before (x ∷ xs) j d h p = by_bool (λ g k l. no_clash clashes (before ++ x ∷ []) xs k d g l) (clashes before x) refl h
    where
      at_place : (k : ℕ) → k < length (x ∷ xs) → clashes before x ≡ false → ((k : ℕ) → k < length xs → clashes ((before ++ x ∷ []) ++ take k xs) (get_or xs k d) ≡ false) → clashes (before ++ take k (x ∷ xs)) (get_or (x ∷ xs) k d) ≡ false
      at_place zero p q later = ap (λ l. clashes l x) (append-nil before) ∙ q
      at_place (suc k) p q later = ap (λ l. clashes l (get_or xs k d)) (sym (append_assoc before (x ∷ []) (take k xs))) ∙ later k (omega arith)

      by_bool : (first_clash clashes (before ++ x ∷ []) xs ≡ None → (k : ℕ) → k < length xs → clashes ((before ++ x ∷ []) ++ take k xs) (get_or xs k d) ≡ false)
          → (b : Bool) → clashes before x ≡ b → (if b then Some (length before) else first_clash clashes (before ++ x ∷ []) xs) ≡ None → clashes (before ++ take j (x ∷ xs)) (get_or (x ∷ xs) j d) ≡ false
      by_bool later true q h = absurd (cc)
      by_bool later false q h = at_place j p q (later h)

  module _ (name : A → List ℕ) where
    abbrev pub named : List A → A → Bool
    named earlier x = list_any (λ e. bytes_eq (name e) (name x)) earlier

    later_differs : (xs : List A) (i j : ℕ) (d : A) → first_clash named [] xs ≡ None → i < j → j < length xs → name (get_or xs i d) ≡ name (get_or xs j d) → ⊥
    later_differs xs i j d h p q e =
        let few : i < length (take j xs) = omega (arith, length-take j xs) in
        let x : get_or (take j xs) i d ≡ get_or xs i d = get_or-take j xs i d p in
        let same : bytes_eq (name (get_or (take j xs) i d)) (name (get_or xs j d)) ≡ true = (bytes_eq-Decides _ _).1 (ap name x ∙ e) in
        let t : true ≡ false = sym (list_any_at (λ e. bytes_eq (name e) (name (get_or xs j d))) (take j xs) i d few same) ∙ no_clash named [] xs j d h q in
        cc

    -- two places of one name are one
    one_holder : (xs : List A) (i j : ℕ) (d : A) → first_clash named [] xs ≡ None → i < length xs → j < length xs → name (get_or xs i d) ≡ name (get_or xs j d) → i ≡ j
    one_holder xs i j d h p q e = by_order (cases_lt i j) (cases_lt j i)
      where
        by_order : (i < j) ⊎ (j ≤ i) → (j < i) ⊎ (i ≤ j) → i ≡ j
        by_order (inl k) l = absurd (later_differs xs i j d h k q e)
        by_order (inr k) (inl l) = absurd (later_differs xs j i d h l p (sym e))
        by_order (inr k) (inr l) = omega arith

    -- the names at the places of a list
    abbrev name_at : List A → ℕ → List ℕ
    name_at xs i = get_or (map name xs) i []

    pub one_name : (xs : List A) (i j : ℕ) → first_clash named [] xs ≡ None → i < length xs → j < length xs → name_at xs i ≡ name_at xs j → i ≡ j
    one_name [] i j h p q e = absurd (omega arith)
    one_name (x ∷ xs) i j h p q e = one_holder (x ∷ xs) i j x h p q (sym (get_or-map name (x ∷ xs) i x [] p) ∙ e ∙ get_or-map name (x ∷ xs) j x [] q)

-- names that the devices and hosts have, with no namesakes
pub record HasNames (parts : Parts) : Type 0 where
  pub devices : (d : ℕ) → d < length parts.devices → IsName (device_name parts d)
  pub hosts : (h : ℕ) → h < length parts.hosts → IsName (host_name parts h)
  pub one_device : (d e : ℕ) → d < length parts.devices → e < length parts.devices → device_name parts d ≡ device_name parts e → d ≡ e
  pub one_host : (h i : ℕ) → h < length parts.hosts → i < length parts.hosts → host_name parts h ≡ host_name parts i → h ≡ i

pub has_names : (parts : Parts) → fault_of parts ≡ None → ((d : ℕ) → d < length parts.devices → IsName (device_name parts d)) → ((h : ℕ) → h < length parts.hosts → IsName (host_name parts h)) → HasNames parts
has_names parts right devices hosts = let e = faultless parts right in record {
  devices = devices;
  hosts = hosts;
  one_device = λ d f p q. one_name (λ (x : DevicePart). x.name) parts.devices d f e.devices_named_apart p q;
  one_host = λ h i p q. one_name (λ (x : HostPart). x.name) parts.hosts h i e.hosts_named_apart p q;
}

pub named_each : {A : Type 0} (name : A → List ℕ) (xs : List A) → All (λ x. IsName (name x)) xs → (i : ℕ) → i < length xs → IsName (get_or (map name xs) i [])
named_each name [] h i p = absurd (omega arith)
named_each name (x ∷ xs) h i p = subst IsName (sym (get_or-map name (x ∷ xs) i x [] p)) (h i x p)

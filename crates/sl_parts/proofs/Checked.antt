-- What follows where no reason against the parts applies.
use Rattle.std.proofs.Common.{◌≡◌, ℕ, ◌<◌, ◌≤◌, List, [], length, get_or, refl, sym, subst, arith, Bool, true, false, Option, Some, None, inl, inr, map}
use Rattle.std.specs.Prelude.{if◌then◌else◌, not, ◌⊎◌, nat_lt, option_map}
use Rattle.std.specs.List.{position, position_or_len, All}
use Rattle.std.proofs.lemmas.Bool.{and_parts, or_parts, cases_lt, ltb-true, ltb-false, not-true, not-false}
use Rattle.std.proofs.lemmas.List.Sums.{prefix_len_passes}
use Rattle.std.proofs.lemmas.List.{get_or-map, get_or_past, length-map}
use Rattle.sl_parts.specs.declared.parts.PortRef.{PortRef}
use Rattle.sl_parts.specs.declared.parts.DevicePart.{DevicePart}
use Rattle.sl_parts.specs.Parts.{Parts, ports_of}
use Rattle.sl_parts.specs.Fault.{is_port, has_wrong_ports, is_stray_cable, is_stray_host, too_many_devices, wrong_ports, stray_cable, stray_host, too_many_hosts}
use Rattle.sl_parts.specs.Ports.{IsNear}
use Rattle.sl_parts.proofs.Tables.{near}
use Rattle.sl_parts.specs.Valid.{IsPort, IsValid}

pub none-under : {A B : Type 0} (f : A → B) (o : Option A) → option_map f o ≡ None → o ≡ None
none-under f None q = refl
none-under f (Some x) q = absurd cc

none-under_test : {A : Type 0} (b : Bool) (x : A) → (if b then Some x else None) ≡ None → b ≡ false
none-under_test true x q = absurd cc
none-under_test false x q = refl

-- where no place passes, each element fails the test
pub none_passes : {A : Type 0} (p : A → Bool) (xs : List A) → position p xs ≡ None → (k : ℕ) (d : A) → k < length xs → p (get_or xs k d) ≡ false
none_passes p xs q k d h = not-true (p (get_or xs k d)) (prefix_len_passes (λ x. not (p x)) xs k d (omega (arith, past)))
  where
    past : length xs ≤ position_or_len p xs
    past = ltb-false (position_or_len p xs) (length xs) (none-under_test (nat_lt (position_or_len p xs) (length xs)) (position_or_len p xs) q)

port_from : (parts : Parts) (p : PortRef) → is_port parts p ≡ true → IsPort parts p
port_from parts p h =
    let both = and_parts (nat_lt p.device (length parts.devices)) (nat_lt p.port (ports_of parts p.device)) h in
    record { device = ltb-true p.device (length parts.devices) both.0; port = ltb-true p.port (ports_of parts p.device) both.1 }

few_ports : (ds : List DevicePart) → position has_wrong_ports ds ≡ None → (d : ℕ) → get_or (map (λ part. part.ports) ds) d 0 ≤ 8
few_ports ds q d = by_cases (cases_lt d (length ds))
  where
    none : DevicePart
    none = record { name = []; ports = 0 }

    length_ports : length (map (λ (part : DevicePart). part.ports) ds) ≡ length ds
    length_ports = simp length-map

    by_cases : (d < length ds) ⊎ (length ds ≤ d) → get_or (map (λ part. part.ports) ds) d 0 ≤ 8
    by_cases (inl h) =
        let few : has_wrong_ports (get_or ds d none) ≡ false = none_passes has_wrong_ports ds q d none h in
        subst (λ n. n ≤ 8) (sym (get_or-map (λ (part : DevicePart). part.ports) ds d none 0 h)) (ltb-false 8 (get_or ds d none).ports (or_parts _ _ few).1)
    by_cases (inr h) = subst (λ n. n ≤ 8) (sym (get_or_past (map (λ (part : DevicePart). part.ports) ds) d 0 (subst (λ n. n ≤ d) (sym (length_ports)) h))) (omega arith)

pub valid_from : (parts : Parts) → too_many_devices parts ≡ None → wrong_ports parts ≡ None → stray_cable parts ≡ None → stray_host parts ≡ None → IsValid parts
valid_from parts few ports cables hosts = record {
  devices = ltb-false 64 (length parts.devices) (none-under_test (nat_lt 64 (length parts.devices)) _ few);
  ports = few_ports parts.devices (none-under _ (position has_wrong_ports parts.devices) ports);
  cables = λ k d h. let both = or_parts _ _ (none_passes (is_stray_cable parts) parts.cables (none-under _ (position (is_stray_cable parts) parts.cables) cables) k d h) in
      (port_from parts (get_or parts.cables k d).a (not-false _ both.0), port_from parts (get_or parts.cables k d).b (not-false _ both.1));
  hosts = λ k d h. port_from parts (get_or parts.hosts k d).at (not-false _ (none_passes (is_stray_host parts) parts.hosts (none-under _ (position (is_stray_host parts) parts.hosts) hosts) k d h));
}

pub few_hosts : (parts : Parts) → too_many_hosts parts ≡ None → length parts.hosts ≤ 128
few_hosts parts q = ltb-false 128 (length parts.hosts) (none-under_test (nat_lt 128 (length parts.hosts)) _ q)

pub near_ends : (parts : Parts) → IsValid parts → All (λ c. IsNear (length parts.devices) c.a × IsNear (length parts.devices) c.b) parts.cables
near_ends parts v = λ k d h. let at = v.cables k d h in (near parts (get_or parts.cables k d).a v at.0, near parts (get_or parts.cables k d).b v at.1)

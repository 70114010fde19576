-- What the function that reads a packet gives is what the packet carries.
use Rattle.std.proofs.Common.{◌≡◌, ℕ, Bool, true, false, List, [], ◌∷◌, Option, Some, None, refl, subst}
use Rattle.std.specs.Prelude.{Result, Ok, Err, IfSome}
use Rattle.std.specs.Result.{result_ok}
use Rattle.gtpu.specs.Content.{Content}
use Rattle.gtpu.specs.declared.packet.GtpKind.TheVariants.{GPdu}
use Rattle.gtpu.specs.declared.packet.PduNumber.{PduNumber}
use Rattle.nr_u.specs.declared.frame.Frame.{Frame}
use Rattle.nr_u.specs.declared.frame.Frame.TheVariants.{User, Status}
use Rattle.nr_u.specs.declared.frame.NruErr.{NruErr}
use Rattle.nr_u.specs.Frames.{IsFrame}
use Rattle.nr_u.specs.Reading.{decoded}
use Rattle.nr_u.proofs.Shown.{frame_decodes}
use Rattle.forward.specs.Load.{Nothing, HasNumber, Carries}
use Rattle.forward.specs.Reading.{total_in, load_with}
use Rattle.forward.proofs.Arrivals.{one_octets, without_number}

-- a packet with a number has a container that is read as its frame
number_read : (p : Content) (octets : List ℕ) (number : ℕ) (user : Bool) → p.container ≡ Some octets → (h : HasNumber p number user) → decoded octets ≡ Ok (User number user h.repeat)
number_read p octets number user has h =
    let same : h.octets ≡ octets = cc (h.has_container, has) in
    frame_decodes octets (User number user h.repeat) (subst (λ (o : List ℕ). IsFrame o (User number user h.repeat)) same h.frame)

pub without_container : (p : Content) → p.container ≡ None → Carries p Nothing
without_container p none = without_number p (λ number user h. cc (none, h.has_container))

total_carried : (p : Content) (number : ℕ) (n : Option PduNumber) (body : List ℕ) → p.number ≡ n → p.body ≡ body → HasNumber p number false → Carries p (total_in number n body)
total_carried p number None [] bare empty h = (h, bare, empty)
total_carried p number None (o ∷ body) bare full h =
    (λ k other. absurd (cc ((one_octets p k number true false other h).1)), λ total other n b. cc (full, b))
total_carried p number (Some n) body has full h =
    (λ k other. absurd (cc ((one_octets p k number true false other h).1)), λ total other none b. cc (has, none))

-- what was read of a G-PDU
pub load_carried : (p : Content) (octets : List ℕ) (r : Result Frame NruErr) → p.kind ≡ GPdu → p.container ≡ Some octets → decoded octets ≡ r → IfSome (result_ok r) (IsFrame octets) → Carries p (load_with p r)
load_carried p octets (Err e) kind has is frame =
    without_number p (λ number user h. cc (is, number_read p octets number user has h))
load_carried p octets (Ok (User number true repeat)) kind has is frame =
    (record { is_g_pdu = kind; octets = octets; has_container = has; repeat = repeat; frame = frame }, refl)
load_carried p octets (Ok (User number false repeat)) kind has is frame =
    total_carried p number p.number p.body refl refl (record { is_g_pdu = kind; octets = octets; has_container = has; repeat = repeat; frame = frame })
load_carried p octets (Ok (Status highest lost)) kind has is frame =
    without_number p (λ number user h. cc (is, number_read p octets number user has h))

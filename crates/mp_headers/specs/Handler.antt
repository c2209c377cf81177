-- The handler reference box (ISO/IEC 14496-12, 8.4.3).
use Rattle.std.specs.Prelude.{◌≡◌, ◌≢◌, ℕ, ◌+◌, false, nat_lt, List, [], ◌∷◌, length, drop, codes, Option, Result}
use Rattle.std.specs.Str.{bytes_eq}
use Rattle.mp_ports.specs.declared.code.Code.{Code}
use Rattle.mp_ports.specs.declared.code.Code.TheVariants.{HintTrack, TableLength}
use Rattle.mp_ports.specs.declared.fault.Bad.{Bad}
use Rattle.mp_ports.specs.Checks.{first_code, unless, placed}
use Rattle.mp_boxes.specs.Field.{Part, leaf, raw, version_and_flags, zeros}
use Rattle.mp_boxes.specs.Number.{kind_at}
use Rattle.mp_boxes.specs.FullBox.{first_field}

-- version and flags, predefined, handler, reserved, name
abbrev pub hdlr : List ℕ → List ℕ → Part
hdlr handler name =
    leaf (codes "hdlr")
    (version_and_flags false 0
    ∷ zeros 4
    ∷ raw handler
    ∷ zeros 12
    ∷ raw name
    ∷ [])

-- where the handler stands: behind four predefined bytes
abbrev pub handler_place : ℕ
handler_place = first_field + 4

-- where the name begins: behind the handler and twelve reserved bytes
abbrev pub name_place : ℕ
name_place = handler_place + 4 + 12

-- the handler of a body
abbrev pub handler_of : List ℕ → List ℕ
handler_of body = kind_at body handler_place

-- the name in a body: all that is left
abbrev pub name_of : List ℕ → List ℕ
name_of body = drop name_place body

-- the faults of a body of any version, in order
abbrev pub hdlr_fault : List ℕ → Option Code
hdlr_fault body = first_code ((nat_lt (length body) name_place, TableLength) ∷ (bytes_eq (handler_of body) (codes "hint"), HintTrack) ∷ [])

-- the handler of the body of the box at `base`, or its first fault
abbrev pub hdlr_of : ℕ → List ℕ → Result (List ℕ) Bad
hdlr_of base body = placed base (unless (hdlr_fault body) (handler_of body))

-- a handler of four bytes, and not that of hints
pub record IsHandler (handler : List ℕ) : Type 0 where
  pub four : length handler ≡ 4
  pub not_hint : handler ≢ codes "hint"

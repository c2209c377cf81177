-- The pictures of judged units in their order, by what is computed of their first slices.
use Rattle.std.proofs.Common.{◌≡◌, ℕ, ℤ, zero, suc, ◌<◌, ◌≤◌, ◌==◌, Bool, true, false, List, length, map, Option, None, Some, IfSome, IsSome, Ok, Err, refl, sym, ap, ◌∙◌, arith, inl, inr, eqb-true}
use Rattle.std.specs.Prelude.{option_map}
use Rattle.std.proofs.lemmas.List.{length-map}
use Rattle.mp_ports.specs.Checks.{bad_at}
use Rattle.mp_ports.specs.declared.code.Code.TheVariants.{NoPicture}
use Rattle.mp_ports.specs.declared.fault.Bad.{Bad}
use Rattle.mp_ports.specs.declared.fault.Fail.{Fail}
use Rattle.mp_ports.specs.declared.fault.Fail.TheVariants.{Bad as Refused, NoMemory}
use Rattle.mp_ports.specs.Gives.{refusal}
use Rattle.avc_units.specs.declared.reader.UnitSpan.{UnitSpan}
use Rattle.avc_sets.specs.Set.{SequenceSet}
use Rattle.avc_slices.specs.declared.slice.Slice.{Slice}
use Rattle.avc_order.specs.declared.access.NalUnit.{NalUnit}
use Rattle.avc_order.specs.Access.{first_slices}
use Rattle.avc_order.specs.Count.{counts_of, nothing, rule_of}
use Rattle.avc_order.specs.Sequence.{AreMarked}
use Rattle.avc_import.specs.declared.rate.Rate.{Rate}
use Rattle.avc_import.specs.declared.film.Shots.{Shots}
use Rattle.avc_import.specs.declared.pictures.Pictures.{Pictures}
use Rattle.avc_import.specs.declared.units.Judged.{Judged}
use Rattle.avc_import.specs.Judged.{HasFile, IsJudged}
use Rattle.avc_import.specs.Sets.{AreKept, HaveSets, ParameterSets, SequenceUnit, sequence_of}
use Rattle.avc_import.specs.Unit.{most_frames}
use Rattle.avc_import.specs.Times.{lasting}
use Rattle.avc_import.specs.Film.{film_of, scheduled}
use Rattle.avc_import.specs.Pictures.{IsClosed, Stands}
use Rattle.avc_import.specs.Movie.{GivesShots, IsOrder, IsPastScale, TiesAt}
use Rattle.avc_import.specs.declared.order.Order.{Order}
use Rattle.avc_import.proofs.Filming.{IsFilm, are_marked, film_given, film_tied, length-counts, no_picture, scale_limited}

-- no unit follows the judged ones
abbrev pub AreClosed : Judged → Pictures → Type 0
AreClosed judged closed = (file size : ℕ) (units : List (NalUnit × UnitSpan)) → Stands file size units judged.pictures → IsClosed file size units closed

-- what is computed of the first slices
pub record AreCounted (judged : Judged) (closed : Pictures) (counts : List ℤ) (syncs : List Bool) : Type 0 where
  pub some : 0 < length judged.pictures.firsts.items
  pub closes : AreClosed judged closed
  pub counts_are : (fields : SequenceSet) → sequence_of judged.sets ≡ Some fields → counts ≡ counts_of (rule_of fields) nothing closed.firsts.items
  pub syncs_are : syncs ≡ map (λ (first : Slice). first.idr) closed.firsts.items

sequence_there : (sets : ParameterSets) → IsSome sets.sequence → (s : SequenceUnit) × (sets.sequence ≡ Some s)
sequence_there sets some = by_sequence sets.sequence some
  where
    by_sequence : (sequence : Option SequenceUnit) → IsSome sequence → (s : SequenceUnit) × (sequence ≡ Some s)
    by_sequence None some = absurd cc
    by_sequence (Some s) some = (s, refl)

pub some_first : (n : ℕ) (none : Bool) → none ≡ (n == 0) → none ≡ false → 0 < n
some_first zero none is not = absurd cc
some_first (suc n) none is not = omega arith

pub no_first : (n : ℕ) (none : Bool) → none ≡ (n == 0) → none ≡ true → n ≡ 0
no_first n none is so = eqb-true n 0 (sym is ∙ so)

pub few_firsts : (judged : Judged) (closed : Pictures) → HasFile judged → AreClosed judged closed → length closed.firsts.items ≤ most_frames
few_firsts judged closed h closes =
    let end = closes h.file h.size h.is.known.units h.is.stands in
    omega (arith, end.few, ap length end.firsts, length-map (first_slices h.is.known.units) (λ (p : Slice × UnitSpan). p.0))

-- a sequence parameter set stands there
pub set_there : (judged : Judged) → HasFile judged → 0 < length judged.pictures.firsts.items → IsSome judged.sets.sequence
set_there judged h some = (h.is.have some).sequence

-- the film of the units that are known
film_in : (judged : Judged) (closed : Pictures) (counts : List ℤ) (syncs : List Bool) (file size : ℕ) (told : Option (List ℕ)) (j : IsJudged file size told judged)
    → AreCounted judged closed counts syncs → (s : SequenceUnit) × (sequence_of judged.sets ≡ Some s.fields) × IsFilm file size j.known s closed counts syncs
film_in judged closed counts syncs file size told j a =
    let (s, there) = sequence_there judged.sets ((j.have a.some).sequence) in
    let fields_are : sequence_of judged.sets ≡ Some s.fields = ap (option_map (λ (s : SequenceUnit). s.fields)) there in
    let end = a.closes file size j.known.units j.stands in
    let same : length closed.firsts.items ≡ length judged.pictures.firsts.items = ap length (end.firsts ∙ sym j.stands.firsts) in
    let film : IsFilm file size j.known s closed counts syncs = record {
      closes = end;
      sequence_is = ap (λ (sets : ParameterSets). sets.sequence) (sym j.sets) ∙ there;
      some = λ none. absurd (let some = a.some in omega (arith, some, same, none));
      counts_are = a.counts_are s.fields fields_are;
      syncs_are = a.syncs_are;
    } in
    (s, fields_are, film)

pub marked : (judged : Judged) (closed : Pictures) (counts : List ℤ) (syncs : List Bool) → HasFile judged → AreCounted judged closed counts syncs → AreMarked (length counts) syncs
marked judged closed counts syncs h a =
    let (s, fields_are, film) = film_in judged closed counts syncs h.file h.size h.told h.is a in
    let end = film.closes in
    are_marked closed.firsts.items (first_slices h.is.known.units) counts syncs end.firsts a.syncs_are (ap length film.counts_are ∙ length-counts (rule_of s.fields) nothing closed.firsts.items) end.few end.begins

-- each picture has a place
pub places_there : (judged : Judged) (closed : Pictures) (counts : List ℤ) (syncs : List Bool) → HasFile judged → AreCounted judged closed counts syncs → length counts ≤ length closed.places.items
places_there judged closed counts syncs h a =
    let (s, fields_are, film) = film_in judged closed counts syncs h.file h.size h.told h.is a in
    let end = film.closes in
    omega (arith, ap length film.counts_are, length-counts (rule_of s.fields) nothing closed.firsts.items, ap length end.firsts, length-map (first_slices h.is.known.units) (λ (p : Slice × UnitSpan). p.0), ap length end.places, length-map (first_slices h.is.known.units) (λ (p : Slice × UnitSpan). p.1.from))

pub as_many : (judged : Judged) (closed : Pictures) (counts : List ℤ) (syncs : List Bool) → HasFile judged → AreCounted judged closed counts syncs → length syncs ≤ most_frames
as_many judged closed counts syncs h a =
    omega (arith, ap length a.syncs_are, length-map closed.firsts.items (λ (first : Slice). first.idr), few_firsts judged closed h a.closes)

-- ---- the answers

pub none_given : (file size : ℕ) (told : Option (List ℕ)) (rate : Option Rate) (judged : Judged) (bad : Bad) (j : IsJudged file size told judged) → length judged.pictures.firsts.items ≡ 0
    → bad ≡ bad_at NoPicture 0 → GivesShots file size rate (film_of j.known) (Err (Refused bad))
none_given file size told rate judged bad j none is = inl (no_picture j.known bad judged.pictures.firsts.items j.stands.firsts none is)

pub tie_given : (judged : Judged) (closed : Pictures) (counts : List ℤ) (syncs : List Bool) (fail : Fail) (rate : Option Rate) → AreCounted judged closed counts syncs
    → IfSome (refusal fail) (TiesAt closed.places.items counts syncs)
    → (file size : ℕ) (told : Option (List ℕ)) (j : IsJudged file size told judged) → GivesShots file size rate (film_of j.known) (Err fail)
tie_given judged closed counts syncs (Refused bad) rate a (k, tie, is) file size told j =
    let (s, fields_are, film) = film_in judged closed counts syncs file size told j a in
    inl (film_tied file size j.known s closed counts syncs k bad film tie is)
tie_given judged closed counts syncs NoMemory rate a given file size told j = tt

pub limit_given : (judged : Judged) (closed : Pictures) (counts : List ℤ) (syncs : List Bool) (order : Order) (fail : Fail) (rate : Option Rate) → AreCounted judged closed counts syncs
    → IsOrder counts syncs order
    → ((fields : SequenceSet) → sequence_of judged.sets ≡ Some fields → IfSome (refusal fail) (IsPastScale (scheduled (lasting rate fields.tick) (length syncs) order.delay)))
    → (file size : ℕ) (told : Option (List ℕ)) (j : IsJudged file size told judged) → GivesShots file size rate (film_of j.known) (Err fail)
limit_given judged closed counts syncs order (Refused bad) rate a o given file size told j =
    let (s, fields_are, film) = film_in judged closed counts syncs file size told j a in
    let (limit, is) = given s.fields fields_are in
    inr (scale_limited file size j.known s closed counts syncs rate (length syncs) order.delay bad film refl o.delay o.untied limit is)
limit_given judged closed counts syncs order NoMemory rate a o given file size told j = tt

pub shots_given : (judged : Judged) (counts : List ℤ) (rate : Option Rate) (shots : Shots) → AreCounted judged shots.pictures counts shots.syncs.items → shots.sets ≡ judged.sets → AreKept judged.sets
    → IsOrder counts shots.syncs.items shots.order
    → ((fields : SequenceSet) → sequence_of judged.sets ≡ Some fields → shots.schedule ≡ scheduled (lasting rate fields.tick) (length shots.syncs.items) shots.order.delay)
    → (file size : ℕ) (told : Option (List ℕ)) (j : IsJudged file size told judged) → GivesShots file size rate (film_of j.known) (Ok shots)
shots_given judged counts rate shots a sets kept o times file size told j =
    let (s, fields_are, film) = film_in judged shots.pictures counts shots.syncs.items file size told j a in
    let kept_here : AreKept shots.sets = rw sets kept in
    let have_here : HaveSets shots.sets = rw sets (j.have a.some) in
    film_given file size j.known s counts rate (length shots.syncs.items) shots film (sets ∙ j.sets) kept_here have_here o.shown o.delay refl (times s.fields fields_are) o.untied

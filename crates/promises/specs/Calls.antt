-- The calls upon a record and its store, each by the definition that its contract cites, and runs of calls: document 01, sections 4 and 5; document 02, R-1.
-- A program answers each call; ours is `step`, and every statement is about any program. Assumes nothing.
use Rattle.std.specs.Prelude.{Bool, ◌&&◌, List, [], ◌∷◌, ℕ, ltb, length}
use Rattle.refusals.specs.Told.{Told, verdict_told}
use Rattle.settings.specs.declared.Settings.{Settings}
use Rattle.settings.specs.Settings.{house}
use Rattle.pack.specs.Pack.{pack_of}
use Rattle.pack.specs.Told.{packed_told}
use Rattle.places.specs.declared.Record.{Record}
use Rattle.places.specs.declared.Name.{Name}
use Rattle.places.specs.Places.{settings_name, same_name, fresh_record}
use Rattle.opening.specs.Open.{open_of, close_of}
use Rattle.record.specs.Offer.{name_in, offer_of}
use Rattle.record.specs.Told.{offered_told}
use Rattle.standing.specs.Status.{status_of}
use Rattle.standing.specs.Told.{standing_told}
use Rattle.handing.specs.Hand.{hand_out_of}

pub data Call : Type 0 where
  -- file, settings, packet number, output
  packing : List ℕ → Settings → ℕ → List ℕ → Call
  -- settings, count
  opening : Settings → ℕ → Call
  -- a packet
  offering : List ℕ → Call
  -- resource and type
  asking : Name → Call
  -- resource and type, length, output
  handing : Name → ℕ → List ℕ → Call
  -- resource and type
  closing : Name → Call

-- the calls without settings are the calls at the house setting
abbrev pub packing_house : List ℕ → ℕ → ℕ → ℕ → ℕ → List ℕ → Call
packing_house file resource kind update n out = packing file (house resource kind update) n out

abbrev pub opening_house : ℕ → ℕ → ℕ → ℕ → Call
opening_house resource kind update count = opening (house resource kind update) count

-- what is answered: this paper's number and values, and the output, which is [] where a call lends none
pub record Answer : Type 0 where
  pub told : Told
  pub output : List ℕ

abbrev pub telling : Told → Answer
telling t = record { told = t; output = [] }

pub record State : Type 0 where
  pub held : Record
  pub store : List ℕ

pub record Outcome : Type 0 where
  pub answer : Answer
  pub state : State

abbrev pub Program : Type 0
Program = Call → State → Outcome

unfoldable pub step : Program
step (packing file g n out) x =
    record { answer = record { told = packed_told (pack_of file g n out).answer; output = (pack_of file g n out).output }; state = x }
step (opening g count) x = record {
  answer = telling (verdict_told (open_of x.held x.store g count).kept.verdict);
  state = record { held = (open_of x.held x.store g count).kept.«record»; store = (open_of x.held x.store g count).store };
}
step (offering q) x = record {
  answer = telling (offered_told (offer_of x.held x.store q).answer);
  state = record { held = x.held; store = (offer_of x.held x.store q).store };
}
step (asking r) x = record { answer = telling (standing_told (status_of x.held x.store r)); state = x }
step (handing r n out) x = record {
  answer = record {
    told = verdict_told (hand_out_of x.held x.store r n out).answer;
    output = (hand_out_of x.held x.store r n out).output;
  };
  state = x;
}
step (closing r) x = record {
  answer = telling (verdict_told (close_of x.held x.store r).verdict);
  state = record { held = (close_of x.held x.store r).«record»; store = x.store };
}

-- a run of calls from a state: the answers, and the state at the end
pub record Ran : Type 0 where
  pub answers : List Answer
  pub state : State

abbrev pub run : Program → List Call → State → Ran
run f [] x = record { answers = []; state = x }
run f (c ∷ cs) x = record { answers = (f c x).answer ∷ (run f cs (f c x).state).answers; state = (run f cs (f c x).state).state }

-- a fresh record over a store
abbrev pub fresh : List ℕ → State
fresh s = record { held = fresh_record; store = s }

-- a packet names resource and type by its bytes 3, 4 and the two high bits of byte 12; a shorter input names none
abbrev pub names : Name → List ℕ → Bool
names r q = ltb 12 (length q) && same_name (name_in q) r

-- which calls are about a resource and type
abbrev pub about : Name → Call → Bool
about r (packing file g n out) = same_name (settings_name g) r
about r (opening g count) = same_name (settings_name g) r
about r (offering q) = names r q
about r (asking x) = same_name x r
about r (handing x n out) = same_name x r
about r (closing x) = same_name x r

-- What a run sent, as the texts of commands, of which each try of an action has one at most.
use Rattle.std.proofs.Common.{◌≡◌, inl, inr, ℕ, ◌+◌, List, [], ◌∷◌, ◌++◌, length, take, refl, sym, ◌∙◌, ap, append_assoc}
use Rattle.std.proofs.Math.Seq.{take-append-add, take-length}
use Rattle.std.proofs.lemmas.List.{append-nil}
use Rattle.std.specs.Option.{option_to_list}
use Rattle.mail_base.specs.declared.tag.Tag.{Tag}
use Rattle.imap_model.specs.CommandText.{parts_of}
use Rattle.imap_model.specs.declared.command.Command.{Command}
use Rattle.imap_model.specs.declared.response.Response.{Response}
use Rattle.literal_feed.specs.Stream.{Stream}
use Rattle.world_traits.specs.LinkState.{LinkState}
use Rattle.imap_session.specs.Dialogue.{BrokeOff, CameToEnd, Dialogue, Known, next_tag, next_text}
use Rattle.imap_session.specs.Dialogue.Dialogue.{Asks, Ends, Lacks}
use Rattle.imap_session.specs.Sent.{SentFront, joined}
use Rattle.imap_session.specs.declared.fault.SessionFault.{SessionFault}
use Rattle.play_driver.specs.Exchanges.{CameAll, Exchange}
use Rattle.play_driver.specs.SendsOnce.{Sending, place_of, places_sent, texts_of}

-- these texts were sent behind what had been sent, of commands of these tries
pub record SentMore (numbers old new : List ℕ) : Type 0 where
  pub sendings : List Sending
  pub is : new ≡ old ++ texts_of sendings
  pub of : places_sent sendings ≡ numbers

-- the same, the last ones maybe not to their end
pub record SentSome (numbers old new : List ℕ) : Type 0 where
  pub sendings : List Sending
  pub is : SentFront (texts_of sendings) old new
  pub of : places_sent sendings ≡ numbers

-- ---- one behind the other

texts_join : (a b : List Sending) → texts_of (a ++ b) ≡ texts_of a ++ texts_of b
texts_join [] b = refl
texts_join (s ∷ a) b =
    ap (λ (t : List ℕ). joined (take s.parts (parts_of s.tag s.command)) ++ t) (texts_join a b)
    ∙ sym (append_assoc (joined (take s.parts (parts_of s.tag s.command))) (texts_of a) (texts_of b))

places_join : (a b : List Sending) → places_sent (a ++ b) ≡ places_sent a ++ places_sent b
places_join [] b = refl
places_join (s ∷ a) b =
    ap (λ (t : List ℕ). option_to_list (place_of s.tag) ++ t) (places_join a b)
    ∙ sym (append_assoc (option_to_list (place_of s.tag)) (places_sent a) (places_sent b))

joined_numbers : (a b : List Sending) (ns ms : List ℕ) → places_sent a ≡ ns → places_sent b ≡ ms → places_sent (a ++ b) ≡ ns ++ ms
joined_numbers a b ns ms first second =
    places_join a b ∙ ap (λ (t : List ℕ). t ++ places_sent b) first ∙ ap (λ (t : List ℕ). ns ++ t) second

pub more_then : (ns ms old mid new : List ℕ) → SentMore ns old mid → SentMore ms mid new → SentMore (ns ++ ms) old new
more_then ns ms old mid new a b = record {
  sendings = a.sendings ++ b.sendings;
  is = b.is ∙ ap (λ (t : List ℕ). t ++ texts_of b.sendings) a.is ∙ append_assoc old (texts_of a.sendings) (texts_of b.sendings)
      ∙ ap (λ (t : List ℕ). old ++ t) (sym (texts_join a.sendings b.sendings));
  of = joined_numbers a.sendings b.sendings ns ms a.of b.of;
}

pub some_then : (ns ms old mid new : List ℕ) → SentMore ns old mid → SentSome ms mid new → SentSome (ns ++ ms) old new
some_then ns ms old mid new a b =
    let ta = texts_of a.sendings in
    let tb = texts_of b.sendings in
    record {
      sendings = a.sendings ++ b.sendings;
      is = record {
        n = length ta + b.is.n;
        is = b.is.is ∙ ap (λ (t : List ℕ). t ++ take b.is.n tb) a.is ∙ append_assoc old ta (take b.is.n tb)
            ∙ ap (λ (t : List ℕ). old ++ t) (sym (take-append-add ta tb b.is.n))
            ∙ ap (λ (t : List ℕ). old ++ take (length ta + b.is.n) t) (sym (texts_join a.sendings b.sendings));
      };
      of = joined_numbers a.sendings b.sendings ns ms a.of b.of;
    }

pub whole_some : (ns old new : List ℕ) → SentMore ns old new → SentSome ns old new
whole_some ns old new a = record {
  sendings = a.sendings;
  is = record {
    n = length (texts_of a.sendings);
    is = a.is ∙ ap (λ (t : List ℕ). old ++ t) (sym (take-length (texts_of a.sendings)));
  };
  of = a.of;
}

pub more_as : (ns ms old new : List ℕ) → ns ≡ ms → SentMore ns old new → SentMore ms old new
more_as ns ms old new same a = record { sendings = a.sendings; is = a.is; of = a.of ∙ same }

pub some_as : (ns ms old new : List ℕ) → ns ≡ ms → SentSome ns old new → SentSome ms old new
some_as ns ms old new same a = record { sendings = a.sendings; is = a.is; of = a.of ∙ same }

-- ---- one text

-- nothing was sent
pub more_none : (old new : List ℕ) → new ≡ old → SentMore [] old new
more_none old new same = record { sendings = []; is = same ∙ sym (append-nil old); of = refl }

-- some parts of a text
pub more_parts : (tag : Tag) (command : Command) (parts : ℕ) (old new : List ℕ) → new ≡ old ++ joined (take parts (parts_of tag command)) →
    SentMore (option_to_list (place_of tag)) old new
more_parts tag command parts old new is = record {
  sendings = record { tag = tag; command = command; parts = parts } ∷ [];
  is = is ∙ ap (λ (t : List ℕ). old ++ t) (sym (append-nil (joined (take parts (parts_of tag command)))));
  of = append-nil (option_to_list (place_of tag));
}

-- all of them
pub more_whole : (tag : Tag) (command : Command) (old new : List ℕ) → new ≡ old ++ joined (parts_of tag command) →
    SentMore (option_to_list (place_of tag)) old new
more_whole tag command old new is =
    more_parts tag command (length (parts_of tag command)) old new
    (is ∙ ap (λ (ps : List (List ℕ)). old ++ joined ps) (sym (take-length (parts_of tag command))))

-- a text maybe not to its end
pub some_front : (tag : Tag) (command : Command) (old new : List ℕ) → SentFront (joined (parts_of tag command)) old new →
    SentSome (option_to_list (place_of tag)) old new
some_front tag command old new front =
    let ps = parts_of tag command in record {
      sendings = record { tag = tag; command = command; parts = length ps } ∷ [];
      is = record {
        n = front.n;
        is = front.is
            ∙ ap (λ (t : List ℕ). old ++ take front.n t)
            (ap joined (sym (take-length ps)) ∙ sym (append-nil (joined (take (length ps) ps))));
      };
      of = append-nil (option_to_list (place_of tag));
    }

-- ---- questions, which belong to no action

pub question_whole : (count : ℕ) (command : Command) (old new : List ℕ) → new ≡ old ++ next_text count command → SentMore [] old new
question_whole count command old new is = more_whole (next_tag count) command old new is

pub question_front : (count : ℕ) (command : Command) (old new : List ℕ) → SentFront (next_text count command) old new → SentSome [] old new
question_front count command old new front = some_front (next_tag count) command old new front

pub dialogue_more : (d : Dialogue) (count : ℕ) (sent had : List ℕ) (heard : List Response) (known : Known) (link : LinkState) (feed : Stream) →
    CameToEnd d count sent had heard known link feed → SentMore [] sent link.sent
dialogue_more (Ends rev2) count sent had heard known link feed x = more_none sent link.sent x.1.sends
dialogue_more (Lacks item) count sent had heard known link feed x = absurd x
dialogue_more (Asks command next) count sent had heard known link feed x =
    more_then [] [] sent (sent ++ next_text count command) link.sent (question_whole count command sent (sent ++ next_text count command) refl)
    (dialogue_more (next x.0) (count + 1) (sent ++ next_text count command) (had ++ x.1) (heard ++ x.2) known link feed x.4)

pub dialogue_some : (d : Dialogue) (count : ℕ) (sent had : List ℕ) (heard : List Response) (link : LinkState) (fault : SessionFault) →
    BrokeOff d count sent had heard link fault → SentSome [] sent link.sent
dialogue_some (Ends rev2) count sent had heard link fault x = absurd x
dialogue_some (Lacks item) count sent had heard link fault x = whole_some [] sent link.sent (more_none sent link.sent x.1.1.sends)
dialogue_some (Asks command next) count sent had heard link fault (inl x) = question_front count command sent link.sent x.text
dialogue_some (Asks command next) count sent had heard link fault (inr x) =
    some_then [] [] sent (sent ++ next_text count command) link.sent (question_whole count command sent (sent ++ next_text count command) refl)
    (dialogue_some (next x.0) (count + 1) (sent ++ next_text count command) (had ++ x.1) (heard ++ x.2) link fault x.4)

pub exchanges_more : (xs : List Exchange) (count : ℕ) (sent had : List ℕ) (heard : List Response) (link : LinkState) (feed : Stream) →
    CameAll xs count sent had heard link feed → SentMore [] sent link.sent
exchanges_more [] count sent had heard link feed x = more_none sent link.sent x.sends
exchanges_more (e ∷ xs) count sent had heard link feed x =
    more_then [] [] sent (sent ++ next_text count e.asked) link.sent
    (question_whole count e.asked sent (sent ++ next_text count e.asked) refl)
    (exchanges_more xs (count + 1) (sent ++ next_text count e.asked) (had ++ x.0) (heard ++ x.1) link feed x.3)

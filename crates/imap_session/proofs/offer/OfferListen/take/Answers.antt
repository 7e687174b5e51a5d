use Rattle.imap_session.proofs.Offering.{offer_more}
use Rattle.imap_session.proofs.offer.OfferListen.take.Goals as goal

pub returns-clause-taken : goal.returns-clause-taken
returns-clause-taken c = λ list is. offer_more list c.args.response c.args.self.now c.behind.result is c.behind.ensures

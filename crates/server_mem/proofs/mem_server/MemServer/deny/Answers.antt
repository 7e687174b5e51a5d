use Rattle.server_mem.proofs.mem_server.MemServer.deny.Goals as goal

pub denial-requires : goal.denial-requires
denial-requires c = c.requires.2.sent.writable.tagged

pub returns-clause-answered : goal.returns-clause-answered
returns-clause-answered c = record {
  may = c.requires;
  after = c.drop_parts.ensures;
  lines = c.in_ok-lines.ensures.spelled;
  text = c.in_ok-lines.ensures.text;
}

use Rattle.std.proofs.Common.{ap}
use Rattle.conda_device.specs.Hosts.{HostState}
use Rattle.conda_dev.proofs.mem_host.MemHostHost.chan.Goals as goal

pub returns-in_err-new_chan-clause-prefixes : goal.returns-in_err-new_chan-clause-prefixes
returns-in_err-new_chan-clause-prefixes g c = record {
  told = ap (λ (s : HostState). s.told) c.new_chan.ensures.state;
  lent = ap (λ (s : HostState). s.lent) c.new_chan.ensures.state;
}

pub returns-in_err-new_chan-clause-handles : goal.returns-in_err-new_chan-clause-handles
returns-in_err-new_chan-clause-handles g c = record {
  files = ap (λ (s : HostState). s.files) c.new_chan.ensures.state;
  gots = ap (λ (s : HostState). s.gots) c.new_chan.ensures.state;
  chan_faults = ap (λ (s : HostState). s.chan_faults) c.new_chan.ensures.state;
  store_faults = ap (λ (s : HostState). s.store_faults) c.new_chan.ensures.state;
}

pub returns-clause-prefixes : goal.returns-clause-prefixes
returns-clause-prefixes g c = record {
  told = ap (λ (s : HostState). s.told) c.new_chan.ensures.state;
  lent = ap (λ (s : HostState). s.lent) c.new_chan.ensures.state;
}

pub returns-clause-handles : goal.returns-clause-handles
returns-clause-handles g c = record {
  files = ap (λ (s : HostState). s.files) c.new_chan.ensures.state;
  gots = ap (λ (s : HostState). s.gots) c.new_chan.ensures.state;
  chan_faults = ap (λ (s : HostState). s.chan_faults) c.new_chan.ensures.state;
  store_faults = ap (λ (s : HostState). s.store_faults) c.new_chan.ensures.state;
}

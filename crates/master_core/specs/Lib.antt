-- the definitions that contracts cite, besides those of node_rules
pub mod Steps

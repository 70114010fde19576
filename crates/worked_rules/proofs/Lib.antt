-- packets of a forwarding tunnel
mod Tunnels
-- a bearer that moves, with ciphering
mod Ciphered
mod CipheredUplink
mod CipheredDownlink
-- PDUs that stayed on a link for a window
mod Ageing

mod OnRegister
